-- What stands, and what a crash leaves, through any calls.
use Rattle.std.proofs.Common.{◌≡◌, inl, inr, Bool, true, false, List, [], ◌∷◌, Option, Some, None, arith}
use Rattle.sqlite.specs.State.{State}
use Rattle.sqlite.specs.Held.{Held, state}
use Rattle.sqlite_trees.specs.declared.store.Store.{Ghosts}
use Rattle.aq_rules.specs.Kept.Rows.{Row}
use Rattle.aq_rules.specs.Kept.RowChanges.{RowChange, with_row_changes}
use Rattle.aq_keeper.specs.Told.{Stays}
use Rattle.aq_keeper.proofs.Telling.{stays_join, stays_still}
use Rattle.aq_tables.specs.All.{rows_of}
use Rattle.aq_tables.specs.Crash.{Kept, Attempt, kept_after, kept_with}
use Rattle.aq_sqlite.specs.Telling.{with_batch}
use Rattle.aq_sqlite.specs.Crash.{AreCalled, IsKept, SaysOf, SaysOfCommit, kept_through, last_after}

-- rows with a batch are those that stand, with the batch
expected_is : (rows left : List Row) (batch : List RowChange) (tells : Option (List Row)) → Stays (Some rows) tells → with_batch batch tells ≡ Some left → left ≡ with_row_changes rows batch
expected_is rows left batch (Some t) stays e = cc
expected_is rows left batch None stays e = absurd (cc)

module _ (kept : Kept) (old new : State) (is : IsKept kept old) where
  kept_reading : SaysOf None old new → IsKept kept new
  kept_reading says = record {
    told_is = stays_still _ _ _ is.told_is says.0;
    left = λ clean db sound may. elim (says.1.crash clean db.trees may) [ inl before ↦ is.left (omega (arith, says.1.clean, clean)) db sound before | inr none ↦ absurd none ];
  }

  kept_trying : (batch : List RowChange) (done : Bool) → SaysOfCommit done batch old new → IsKept (kept_with kept (with_row_changes kept.rows batch) done) new
  kept_trying batch true says = record {
    told_is = stays_join (λ rows. with_row_changes rows batch) _ _ _ is.told_is says.0;
    left = λ clean db sound may. inl (expected_is kept.rows (rows_of db) batch _ is.told_is (says.1 clean db sound may));
  }
  kept_trying batch false says = record {
    told_is = stays_still _ _ _ is.told_is says.0;
    left = λ clean db sound may. elim (says.1.crash clean db sound may) [
      | inl before ↦ inr (is.left (says.1.clean clean) db sound before)
      | inr made ↦ inl (expected_is kept.rows (rows_of db) batch _ is.told_is made)
    ];
  }

pub kept_calling : {S : Type 0} (g : Ghosts S) (calls : List (Option Attempt × Held S)) (kept : Kept) (start : Held S) → IsKept kept (state g start) → AreCalled g start calls → IsKept (kept_through kept calls) (state g (last_after start calls))
kept_calling g [] kept start is called = is
kept_calling g ((Some attempt, after) ∷ calls) kept start is called =
    kept_calling g calls (kept_after kept attempt) after (kept_trying kept (state g start) (state g after) is attempt.batch attempt.is_done called.0) called.1
kept_calling g ((None, after) ∷ calls) kept start is called = kept_calling g calls kept after (kept_reading kept (state g start) (state g after) is called.0) called.1
