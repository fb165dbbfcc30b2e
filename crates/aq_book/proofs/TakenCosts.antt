-- What it costs to take a load: what the change costs from the book's office to the one after it.
use Rattle.std.proofs.Common.{◌≡◌, ℕ, ◌+◌, ◌≤◌, Option, List, unwrap_or, arith}
use Rattle.aq_base.specs.declared.observation.ObsKey.{ObsKey}
use Rattle.aq_base.specs.declared.observation.Observation.{Observation}
use Rattle.aq_base.specs.declared.office.OfficeRecord.{OfficeRecord}
use Rattle.aq_base.specs.declared.reply.LoadReply.{LoadReply}
use Rattle.aq_rules.specs.Kept.Reach.{cost}
use Rattle.aq_rules.specs.Office.Load.{OfficeChange}
use Rattle.aq_rules.specs.Office.Office.{Office, StoredLoad}
use Rattle.aq_series.specs.OfficeView.{office_of}
use Rattle.aq_staging.specs.Changes.{with_changes}
use Rattle.aq_staging.specs.Staged.{AreChangesOf, StagedLoad}
use Rattle.aq_staging.specs.declared.identity.LoadIdentity.{LoadIdentity}
use Rattle.aq_cells.specs.Reached.{IsChange}
use Rattle.aq_book.specs.Staged.{kept_under, office_with, Fits}
use Rattle.aq_book.specs.View.{standing, IsBook}
use Rattle.aq_cells.specs.declared.cells.Cells.{Cells}
use Rattle.aq_book.proofs.LoadsCost.{bare-costs}
use Rattle.aq_cells.proofs.ReachedLemmas.{changes-are}
use Rattle.aq_book.proofs.OfficeLoads.{loadless}
use Rattle.aq_book.proofs.StageLemmas.{taken-office, valid-after}

pub taken-costs : (staged : StagedLoad) (office : Office) (old : List OfficeRecord) (rows : List (ObsKey × Observation)) (loads : List StoredLoad) (view : standing old rows loads ≡ office)
    (records : List OfficeRecord) (records_are : records ≡ unwrap_or staged.records old) (new : List (ObsKey × Observation)) (new_is : new ≡ with_changes staged.changes rows)
    (identity : Option LoadIdentity) (identity_is : identity ≡ staged.identity) (reply : LoadReply) (reply_is : reply ≡ staged.reply)
    (kept : List StoredLoad) (kept_is : kept ≡ kept_under identity reply loads)
    → Fits staged office → (changes : List OfficeChange) → AreChangesOf old rows staged.records staged.changes changes → (cells : Cells) → IsBook old rows loads cells → (start end : ℕ)
    → ((standing_rows : List (ObsKey × Observation)) → IsChange (office_of old standing_rows) (office_of records new) changes cells.ozone cells.pm25 cells.pm10 → end ≤ start + cost (office_of old standing_rows) (office_of records new))
    → end ≤ start + cost office (office_with staged office)
taken-costs staged office old rows loads view records records_are new new_is identity identity_is reply reply_is kept kept_is fits changes are cells of start end settles =
    let whole = taken-office staged office old rows loads view records records_are new new_is identity identity_is reply reply_is kept kept_is in
    let valid = valid-after staged office old rows loads view records records_are new new_is identity identity_is reply reply_is kept kept_is fits in
    let bound =
    settles rows
    (record {
      old_is_valid = loadless old rows loads of.office;
      new_is_valid = loadless records new kept valid;
      changes_are = changes-are old records rows new staged changes records_are new_is are;
      ozone_kept = of.ozone_kept;
      pm25_kept = of.pm25_kept;
      pm10_kept = of.pm10_kept;
    })
    in
    let same : cost (standing old rows loads) (standing records new kept) ≡ cost office (office_with staged office) = λ i. cost (view i) (whole i) in
    omega (arith, bound, bare-costs old records rows new loads kept, same)
