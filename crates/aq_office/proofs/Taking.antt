-- A load that is made ready, committed and taken.
use Rattle.std.proofs.Common.{◌≡◌, ℕ, ◌≤◌, ◌+◌, inl, inr, List, Option, Some, None, sym, ap, ◌∙◌, refl, subst}
use Rattle.aq_keeper.proofs.Telling.{stays_as}
use Rattle.aq_keeper.specs.Told.{KeeperView, Stays}
use Rattle.std.specs.Prelude.{IfOk, IfSome, IsTrue, OnErr, OnOk, Result, Ok, Err, map, true}
use Rattle.std.specs.Option.{option_map}
use Rattle.aq_base.specs.declared.refusal.Memory.{Memory}
use Rattle.aq_rules.specs.Kept.Reach.{cost}
use Rattle.aq_rules.specs.Kept.RowChanges.{GivesRowsAfter, RowChange, batch_rises, changed_key, row_batch, with_row_changes}
use Rattle.aq_rules.specs.Kept.Rows.{Row, rows_of}
use Rattle.aq_rules.specs.Limits.{MOST_LINES}
use Rattle.aq_rules.specs.Lines.Lines.{line_count}
use Rattle.aq_rules.specs.Office.Load.{New, decide, load, post, reply}
use Rattle.aq_rules.specs.Office.Office.{IsOffice, Office}
use Rattle.aq_keeper.proofs.TablesOfOffice.{become_still}
use Rattle.aq_keeper.specs.Standing.{standing_of}
use Rattle.aq_book.specs.Staged.{office_with}
use Rattle.aq_office.proofs.PostedLoads.{post_new}
use Rattle.aq_office.specs.Posting.{Commits, IsPostedShown, IsReady, LeavesTables, LosesLoad, TakenBy}
use Rattle.aq_office.specs.declared.posting.Posted.{Posted}
use Rattle.aq_office.specs.declared.posting.Posted.TheVariants.{Done}
use Rattle.aq_office.specs.declared.posting.ReadyLoad.{ReadyLoad}

-- ---- results

pub on_err : {A E : Type 0} (P : Type 0) (r : Result A E) → P → OnErr r P
on_err P (Ok value) holds = tt
on_err P (Err fault) holds = holds

pub if_ok : {A E : Type 0} {P Q : A → Type 0} (r : Result A E) → ((a : A) → P a → Q a) → IfOk r P → IfOk r Q
if_ok (Ok value) implies holds = implies value holds
if_ok (Err fault) implies holds = tt

pub if_err : {A E P Q : Type 0} (r : Result A E) → (P → Q) → OnErr r P → OnErr r Q
if_err (Ok value) implies holds = tt
if_err (Err fault) implies holds = implies holds

-- ---- a batch of rows

pub in_order : (changes batch : List RowChange) → changes ≡ batch → IsTrue (batch_rises (map changed_key batch)) → batch_rises (map changed_key changes) ≡ true
in_order changes batch same rises = subst (λ (cs : List RowChange). batch_rises (map changed_key cs) ≡ true) (sym same) rises

pub rows_after : (office : Office) (number : ℕ) (digest body : List ℕ) (changes : List RowChange) → changes ≡ row_batch office number digest body
    → GivesRowsAfter office number digest body → with_row_changes (rows_of office) changes ≡ rows_of (load office number digest body)
unfolding GivesRowsAfter
rows_after office number digest body changes same gives = ap (λ (b : List RowChange). with_row_changes (rows_of office) b) same ∙ gives

-- ---- a load that is ready

module _ (office : Office) (number : ℕ) (digest body : List ℕ) (ready : ReadyLoad) (is : IsReady office number digest body ready) where
  -- the rows behind the commit
  rows-become : (t : Option (List Row)) → IfSome t (λ told. told ≡ rows_of office) → option_map (λ told. with_row_changes told ready.batch) t ≡ option_map (λ _. rows_of (load office number digest body)) t
  rows-become None told = refl
  rows-become (Some all) told = ap (λ (rows : List Row). Some (with_row_changes rows ready.batch)) told ∙ ap Some is.gives

  -- and so the tables, of an office that is this one in other words
  committed : (now : Office) (t u : Option (List Row)) → Stays (option_map (λ told. with_row_changes told ready.batch) t) u → IfSome t (λ told. told ≡ rows_of office) → load office number digest body ≡ now → Stays (option_map (λ _. rows_of now) t) u
  committed now t u done told named = stays_as _ _ u (sym (rows-become t told ∙ ap (λ (o : Office). option_map (λ _. rows_of o) t) named)) done

  pub shown : (result : Result Posted Memory) → IfOk result (λ answer. answer ≡ Done ready.sheet) → IfOk result IsPostedShown
  shown (Err fault) told = tt
  shown (Ok answer) told = subst IsPostedShown (sym told) is.shown

  module _ (before after : KeeperView) (done : Commits true ready.batch before after) where
    pub taken : (now : Office) (result : Result Posted Memory) → OnOk result (now ≡ office_with ready.staged office) → IfOk result (λ answer. answer ≡ Done ready.sheet)
        → IfOk result (λ answer. TakenBy answer (reply office number body) (load office number digest body) (standing_of office before) (standing_of now after))
    taken now (Err fault) same told = tt
    taken now (Ok answer) same told =
        let same_office : now ≡ load office number digest body = same ∙ is.office_is in
        subst (λ a. TakenBy a (reply office number body) (load office number digest body) (standing_of office before) (standing_of now after)) (sym told)
        (is.sheet_is, same_office, done.1, λ rows. committed now before.tables after.tables done.0 rows (sym same_office))

    pub lost_behind : (result : Result Posted Memory) → line_count body ≤ MOST_LINES → decide office number digest ≡ New
        → OnErr result (LosesLoad number digest body (standing_of office before) (standing_of office after))
    lost_behind result few new = on_err _ result (record {
      faults = done.1;
      tables = λ told. inr (committed (post office number digest body) before.tables after.tables done.0 told (sym (post_new office number digest body few new)));
    })

  pub ready_costs : (old new : ℕ) → new ≤ old + cost office (office_with ready.staged office) → new ≤ old + cost office (load office number digest body)
  ready_costs old new few = subst (λ (o : Office). new ≤ old + cost office o) is.office_is few

-- nothing was committed
pub lost_before : (office : Office) (number : ℕ) (digest body : List ℕ) (before after : KeeperView) → LeavesTables before after
    → LosesLoad number digest body (standing_of office before) (standing_of office after)
lost_before office number digest body before after same = record {
  faults = same.1;
  tables = λ told. inl (become_still (standing_of office before) (standing_of office after) told same.0);
}
