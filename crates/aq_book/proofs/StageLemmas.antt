-- The office that a staged load stands for.
use Rattle.std.proofs.Common.{◌≡◌, ℕ, zero, suc, ◌≤◌, ◌⊎◌, inl, inr, arith, Option, unwrap_or, List, length, ap, sym, subst, ◌∙◌}
use Rattle.aq_base.specs.declared.observation.ObsKey.{ObsKey}
use Rattle.aq_base.specs.declared.observation.Observation.{Observation}
use Rattle.aq_base.specs.declared.office.OfficeRecord.{OfficeRecord}
use Rattle.aq_base.specs.declared.reply.LoadReply.{LoadReply}
use Rattle.aq_rules.specs.Limits.{MOST_OBSERVATIONS}
use Rattle.aq_rules.specs.Lines.Lines.{body_lines}
use Rattle.aq_rules.specs.Office.Load.{New, OfficeChange, after_all, decide, load, reply, with_load}
use Rattle.aq_rules.specs.Office.Office.{IsOffice, Office, StoredLoad}
use Rattle.aq_series.specs.OfficeView.{office_of}
use Rattle.aq_staging.specs.Identity.{identity_of}
use Rattle.aq_staging.specs.Staged.{AreChangesOf, StagedLoad, after_lines, IsStagedOn}
use Rattle.aq_staging.specs.declared.identity.LoadIdentity.{LoadIdentity}
use Rattle.aq_staging.specs.Changes.{with_changes}
use Rattle.aq_book.specs.Staged.{kept_under, office_with, with_kept, Fits, IsStageOf}
use Rattle.aq_rows.specs.KeptLoads.{stored_as}
use Rattle.aq_book.specs.View.{standing}
use Rattle.aq_book.proofs.Loadless.{after_all_loads, reply_loads, with_loads}

-- ---- a load that is staged on a book with loads

pub stage-is : (staged : StagedLoad) (records : List OfficeRecord) (rows : List (ObsKey × Observation)) (loads : List StoredLoad) (office : Office) → standing records rows loads ≡ office → (number : ℕ) (digest body : List ℕ)
    → staged.identity ≡ identity_of number digest → staged.reply ≡ reply (office_of records rows) number body
    → after_lines staged (office_of records rows) ≡ after_all (office_of records rows) (body_lines body) → IsStagedOn records rows staged
    → IsStageOf office number digest body staged
stage-is staged records rows loads office view number digest body is_identity is_reply is_after on = record {
  identity_is = is_identity;
  reply_is = is_reply ∙ sym (reply_loads loads (office_of records rows) number body) ∙ ap (λ (o : Office). reply o number body) view;
  lines_taken =
      ap (after_lines staged) (sym view) ∙ ap (with_loads loads) is_after
      ∙ sym (after_all_loads loads (body_lines body) (office_of records rows))
      ∙ ap (λ (o : Office). after_all o (body_lines body)) view;
  on = subst (λ (o : Office). IsStagedOn o.records o.observations staged) view on;
}

kept-is : (number : ℕ) (digest : List ℕ) (reply : LoadReply) (office : Office) → with_kept (identity_of number digest) reply office ≡ with_load (stored_as number digest reply) office
kept-is number digest reply office = grind arith

pub office-is : (staged : StagedLoad) (office : Office) (number : ℕ) (digest body : List ℕ) → IsStageOf office number digest body staged → office_with staged office ≡ load office number digest body
unfolding office_with
office-is staged office number digest body stage =
    (λ i. with_kept (stage.identity_is i) (stage.reply_is i) (stage.lines_taken i))
    ∙ kept-is number digest (reply office number body) (after_all office (body_lines body))

-- the laws on loads say that the office is valid then
module _ (office : Office) (digest body : List ℕ) (not_kept : IsOffice (load office 0 digest body)) where
  pub valid-loaded : (number : ℕ) → (1 ≤ number → decide office number digest ≡ New → IsOffice (load office number digest body)) → (number ≡ 0) ⊎ (decide office number digest ≡ New) → IsOffice (load office number digest body)
  valid-loaded zero kept either = not_kept
  valid-loaded (suc n) kept (inl none) = absurd (omega (arith, none))
  valid-loaded (suc n) kept (inr new) = kept (omega arith) new

-- ---- a load that is taken

module _ (staged : StagedLoad) (office : Office) (old : List OfficeRecord) (rows : List (ObsKey × Observation)) (loads : List StoredLoad) (view : standing old rows loads ≡ office) where
  -- the shelf with the changes is not too full
  pub room-after : Fits staged office → length (with_changes staged.changes rows) ≤ MOST_OBSERVATIONS
  unfolding office_with
  room-after fits =
      subst (λ (o : Office). length (with_changes staged.changes o.observations) ≤ MOST_OBSERVATIONS) (sym view) fits.valid.few_observations

  -- what it changes are the changes of its lines
  pub changed-of : Fits staged office → (changes : List OfficeChange) → changes ≡ staged.office_changes → AreChangesOf old rows staged.records staged.changes changes
  changed-of fits changes same =
      subst (λ (l : List OfficeChange). AreChangesOf old rows staged.records staged.changes l) (sym same)
      (subst (λ (o : Office). AreChangesOf o.records o.observations staged.records staged.changes staged.office_changes) (sym view) fits.on.changed)

  module _ (records : List OfficeRecord) (records_are : records ≡ unwrap_or staged.records old) (new : List (ObsKey × Observation)) (new_is : new ≡ with_changes staged.changes rows)
      (identity : Option LoadIdentity) (identity_is : identity ≡ staged.identity) (reply : LoadReply) (reply_is : reply ≡ staged.reply)
      (kept : List StoredLoad) (kept_is : kept ≡ kept_under identity reply loads) where
    -- the shelf after the changes, the records of the load, and the loads with it
    pub taken-office : standing records new kept ≡ office_with staged office
    unfolding office_with
    taken-office =
        (λ i. standing (records_are i) (new_is i) ((kept_is ∙ (λ j. kept_under (identity_is j) (reply_is j) loads)) i))
        ∙ ap (office_with staged) view

    pub valid-after : Fits staged office → IsOffice (standing records new kept)
    valid-after fits = subst IsOffice (sym taken-office) fits.valid
