-- Batches have no change of the row of another load.
use Rattle.std.proofs.Common.{◌≡◌, ◌≢◌, ℕ, ℤ, pos, ◌==◌, Bool, true, false, cond, List, [], ◌∷◌, ◌++◌, map, filter, Option, Some, None, IfSome, refl}
use Rattle.std.specs.List.{AllByRecursion, cons_option, filter_map}
use Rattle.std.proofs.lemmas.Bool.Decides.{Decides-int_eq}
use lib.Pointwise.{pointwise_decides}
use Rattle.aq_base.specs.declared.observation.ObsKey.{ObsKey}
use Rattle.aq_base.specs.declared.observation.Observation.{Observation}
use Rattle.aq_base.specs.declared.office.OfficeRecord.{OfficeRecord}
use Rattle.aq_base.specs.declared.office.OfficeKey.{OfficeKey}
use Rattle.aq_rules.specs.Lines.Lines.{body_lines}
use Rattle.aq_rules.specs.Office.Office.{Office, StoredLoad, record_at, observation_at}
use Rattle.aq_rules.specs.Office.Load.{OfficeChange, PutRecord, PutObservation, PutLoad, is_same_record, is_same_content, record_change, observation_change, record_changes, observation_changes, load_change, batch, stored, after_all}
use Rattle.aq_rules.specs.Kept.Rows.{Row, OfOfficeRow, OfObsRow, OfLoadRow, OfSecondRow}
use Rattle.aq_rules.specs.Kept.RowChanges.{LoadRowKey, RowChange, PutRow, DropRow, columns, row_key, changed_key, is_same_row_key, row_change, row_batch}
use Rattle.aq_rules.specs.Kept.Migration.{is_first, migrated_row, migration_batch}
use Rattle.aq_sqlite.specs.Loads.{Spares}

-- keys of loads with different numbers are different
other_load : (a b : ℤ) → a ≢ b → is_same_row_key (LoadRowKey a) (LoadRowKey b) ≡ false
other_load a b apart = by_test (is_same_row_key (LoadRowKey a) (LoadRowKey b)) refl
  where
    by_test : (s : Bool) → is_same_row_key (LoadRowKey a) (LoadRowKey b) ≡ s → s ≡ false
    by_test false e = refl
    by_test true e = let same : columns (LoadRowKey a) ≡ columns (LoadRowKey b) = (pointwise_decides Decides-int_eq (columns (LoadRowKey a)) (columns (LoadRowKey b))).0 e in absurd (apart (cc))

module _ (other : ℤ) where
  spares-append : (a b : List RowChange) → Spares other a → Spares other b → Spares other (a ++ b)
  spares-append [] b p q = q
  spares-append (change ∷ a) b p q = (p.0, spares-append a b p.1 q)

  abbrev IsSpared : OfficeChange → Type 0
  IsSpared change = is_same_row_key (changed_key (row_change change)) (LoadRowKey other) ≡ false

  spares-changes : (changes : List OfficeChange) → AllByRecursion IsSpared changes → Spares other (map row_change changes)
  spares-changes [] all = tt
  spares-changes (change ∷ changes) all = (all.0, spares-changes changes all.1)

  all-append : (a b : List OfficeChange) → AllByRecursion IsSpared a → AllByRecursion IsSpared b → AllByRecursion IsSpared (a ++ b)
  all-append [] b p q = q
  all-append (change ∷ a) b p q = (p.0, all-append a b p.1 q)

  all-found : {K : Type 0} (f : K → Option OfficeChange) → ((key : K) → IfSome (f key) IsSpared) → (keys : List K) → AllByRecursion IsSpared (filter_map f keys)
  all-found f each [] = tt
  all-found f each (key ∷ keys) = go (f key) (each key) (all-found f each keys)
    where
      go : (o : Option OfficeChange) → IfSome o IsSpared → AllByRecursion IsSpared (filter_map f keys) → AllByRecursion IsSpared (cons_option o (filter_map f keys))
      go None h rest = rest
      go (Some change) h rest = (h, rest)

  record-spared : (key : OfficeKey) (before now : Option OfficeRecord) → IfSome (record_change key before now) IsSpared
  record-spared key None None = tt
  record-spared key None (Some now) = refl
  record-spared key (Some before) None = refl
  record-spared key (Some before) (Some now) = go (is_same_record before now)
    where
      go : (b : Bool) → IfSome (cond b None (Some (PutRecord now))) IsSpared
      go true = tt
      go false = refl

  observation-spared : (key : ObsKey) (before now : Option Observation) → IfSome (observation_change key before now) IsSpared
  observation-spared key None None = tt
  observation-spared key None (Some now) = refl
  observation-spared key (Some before) None = refl
  observation-spared key (Some before) (Some now) = go (is_same_content before now)
    where
      go : (b : Bool) → IfSome (cond b None (Some (PutObservation key now))) IsSpared
      go true = tt
      go false = refl

  load-spared : (load : StoredLoad) → pos load.number ≢ other → AllByRecursion IsSpared (load_change load)
  load-spared load apart = go (load.number == 0)
    where
      go : (b : Bool) → AllByRecursion IsSpared (cond b [] (PutLoad load ∷ []))
      go true = tt
      go false = (other_load (pos load.number) other apart, tt)

  pub load_spares : (office : Office) (number : ℕ) (digest body : List ℕ) → pos number ≢ other → Spares other (row_batch office number digest body)
  unfolding row_batch
  load_spares office number digest body apart =
      let now = after_all office (body_lines body) in
      spares-changes (batch office number digest body)
      (all-append (record_changes office now ++ observation_changes office now) (load_change (stored office number digest body))
      (all-append (record_changes office now) (observation_changes office now)
      (all-found _ (λ key. record-spared key (record_at office key) (record_at now key)) _)
      (all-found _ (λ key. observation-spared key (observation_at office key) (observation_at now key)) _))
      (load-spared (stored office number digest body) apart))

  drops-spare : (rows : List Row) → Spares other (map (λ row. DropRow (row_key row)) (filter is_first rows))
  drops-spare [] = tt
  drops-spare (OfOfficeRow row ∷ rows) = drops-spare rows
  drops-spare (OfObsRow row ∷ rows) = (refl, drops-spare rows)
  drops-spare (OfLoadRow row ∷ rows) = drops-spare rows
  drops-spare (OfSecondRow row ∷ rows) = drops-spare rows

  puts-spare : (rows : List Row) → Spares other (map (λ row. PutRow (migrated_row row)) (filter is_first rows))
  puts-spare [] = tt
  puts-spare (OfOfficeRow row ∷ rows) = puts-spare rows
  puts-spare (OfObsRow row ∷ rows) = (refl, puts-spare rows)
  puts-spare (OfLoadRow row ∷ rows) = puts-spare rows
  puts-spare (OfSecondRow row ∷ rows) = puts-spare rows

  pub migration_spares : (rows : List Row) → Spares other (migration_batch rows)
  unfolding migration_batch
  migration_spares rows = spares-append _ _ (drops-spare rows) (puts-spare rows)
