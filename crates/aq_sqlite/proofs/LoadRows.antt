-- The row of a load stands through changes of other rows, and so in all that a crash leaves.
use Rattle.std.proofs.Common.{◌≡◌, inl, inr, ◌∙◌, Bool, true, false, cond, not, List, [], ◌∷◌, ◌++◌, Option, Some, None, refl, sym, ap, subst}
use Rattle.std.proofs.lemmas.Bool.{false≢true}
use Rattle.std.specs.Ordering.{int_eq}
use Rattle.std.specs.List.{AllByRecursion}
use Rattle.std.proofs.lemmas.Bool.Decides.{Decides-int_eq}
use lib.Pointwise.{pointwise, pointwise_decides}
use Rattle.sqlite.specs.Held.{Held, state}
use Rattle.sqlite_trees.specs.declared.store.Store.{Ghosts}
use Rattle.aq_rules.specs.Kept.Rows.{Row, LoadRow, OfLoadRow}
use Rattle.aq_rules.specs.Kept.RowChanges.{RowKey, LoadRowKey, RowChange, PutRow, DropRow, row_key, columns, key_before, is_same_row_key, put_row, drop_row, row_with, with_row_change, with_row_changes}
use Rattle.aq_tables.specs.Crash.{Kept, Attempt, kept_after, kept_with}
use Rattle.aq_sqlite.specs.Crash.{AreCalled, IsKept, IsOneOf, LeavesOnly, kept_through, last_after}
use Rattle.aq_sqlite.specs.Loads.{HasLoad, Spares, SparesCall, with_load}
use Rattle.aq_sqlite.proofs.Through.{kept_calling}

-- ---- what is found under a key

same-itself : (key : RowKey) → is_same_row_key key key ≡ true
same-itself key = (pointwise_decides Decides-int_eq (columns key) (columns key)).1 refl

-- keys that are the same are the same as any other
same_to : (a b key : RowKey) → is_same_row_key a b ≡ true → is_same_row_key a key ≡ is_same_row_key b key
same_to a b key same = ap (λ cs. pointwise int_eq cs (columns key)) ((pointwise_decides Decides-int_eq (columns a) (columns b)).0 same)

same-turned : (a b : RowKey) → is_same_row_key a b ≡ false → is_same_row_key b a ≡ false
same-turned a b apart = go (is_same_row_key b a) refl
  where
    go : (same : Bool) → is_same_row_key b a ≡ same → same ≡ false
    go false e = refl
    go true e = absurd (false≢true (sym apart ∙ sym (same_to b a b e) ∙ same-itself b))

put-stands : (row : Row) (rows : List Row) → row_with (row_key row) (put_row row rows) ≡ Some row
put-stands row [] = rw (same-itself (row_key row)) refl
put-stands row (first ∷ rows) = by_tests (key_before (row_key row) (row_key first)) (is_same_row_key (row_key row) (row_key first)) refl (put-stands row rows)
  where
    by_tests : (b s : Bool) → is_same_row_key (row_key row) (row_key first) ≡ s → row_with (row_key row) (put_row row rows) ≡ Some row
        → row_with (row_key row) (cond b (row ∷ first ∷ rows) (cond s (row ∷ rows) (first ∷ put_row row rows))) ≡ Some row
    by_tests true s e rest = rw (same-itself (row_key row)) refl
    by_tests false true e rest = rw (same-itself (row_key row)) refl
    by_tests false false e rest = rw (same-turned (row_key row) (row_key first) e) rest

module _ (key : RowKey) where
  put-other : (row : Row) (rows : List Row) → is_same_row_key (row_key row) key ≡ false → row_with key (put_row row rows) ≡ row_with key rows
  put-other row [] apart = rw apart refl
  put-other row (first ∷ rows) apart = by_tests (key_before (row_key row) (row_key first)) (is_same_row_key (row_key row) (row_key first)) refl (put-other row rows apart)
    where
      by_tests : (b s : Bool) → is_same_row_key (row_key row) (row_key first) ≡ s → row_with key (put_row row rows) ≡ row_with key rows
          → row_with key (cond b (row ∷ first ∷ rows) (cond s (row ∷ rows) (first ∷ put_row row rows))) ≡ row_with key (first ∷ rows)
      by_tests true s e rest = rw apart refl
      by_tests false true e rest = rw (apart, sym (same_to (row_key row) (row_key first) key e) ∙ apart) refl
      by_tests false false e rest = ap (cond (is_same_row_key (row_key first) key) (Some first)) rest

  drop-other : (dropped : RowKey) (rows : List Row) → is_same_row_key dropped key ≡ false → row_with key (drop_row dropped rows) ≡ row_with key rows
  drop-other dropped [] apart = refl
  drop-other dropped (first ∷ rows) apart = by_test (is_same_row_key (row_key first) dropped) refl (drop-other dropped rows apart)
    where
      by_test : (b : Bool) → is_same_row_key (row_key first) dropped ≡ b → row_with key (drop_row dropped rows) ≡ row_with key rows
          → row_with key (cond (not b) (first ∷ drop_row dropped rows) (drop_row dropped rows)) ≡ row_with key (first ∷ rows)
      by_test true e rest = rw (same_to (row_key first) dropped key e ∙ apart) rest
      by_test false e rest = ap (cond (is_same_row_key (row_key first) key) (Some first)) rest

-- ---- batches

module _ (row : LoadRow) where
  spared : (batch : List RowChange) (rows : List Row) → Spares row.number batch → HasLoad row rows → HasLoad row (with_row_changes rows batch)
  spared [] rows spares has = has
  spared (PutRow other ∷ batch) rows spares has = spared batch (put_row other rows) spares.1 (put-other (LoadRowKey row.number) other rows spares.0 ∙ has)
  spared (DropRow key ∷ batch) rows spares has = spared batch (drop_row key rows) spares.1 (drop-other (LoadRowKey row.number) key rows spares.0 ∙ has)

  put_last : (batch : List RowChange) (rows : List Row) → HasLoad row (with_row_changes rows (with_load batch row))
  put_last [] rows = put-stands (OfLoadRow row) rows
  put_last (change ∷ batch) rows = put_last batch (with_row_change rows change)

  abbrev Holds : Kept → Type 0
  Holds kept = HasLoad row kept.rows × AllByRecursion (HasLoad row) kept.left

  holds_with : (kept : Kept) (made : List Row) (done : Bool) → Holds kept → HasLoad row made → Holds (kept_with kept made done)
  holds_with kept made true holds has = (has, (has, tt))
  holds_with kept made false holds has = (holds.0, (has, holds.1))

  module _ {S : Type 0} where
    holds_after : (calls : List (Option Attempt × Held S)) (kept : Kept) → AllByRecursion (λ call. SparesCall row.number call.0) calls → Holds kept → Holds (kept_through kept calls)
    holds_after [] kept spares holds = holds
    holds_after ((Some attempt, after) ∷ calls) kept spares holds =
        holds_after calls (kept_after kept attempt) spares.1 (holds_with kept (with_row_changes kept.rows attempt.batch) attempt.is_done holds (spared attempt.batch kept.rows spares.0 holds.0))
    holds_after ((None, after) ∷ calls) kept spares holds = holds_after calls kept spares.1 holds

    holds_through : (before after : List (Option Attempt × Held S)) (kept : Kept) (batch : List RowChange) (h : Held S) → AllByRecursion (λ call. SparesCall row.number call.0) after
        → Holds (kept_through kept (before ++ (Some (record { batch = with_load batch row; is_done = true }), h) ∷ after))
    holds_through [] after kept batch h spares = holds_after after _ spares (put_last batch kept.rows, (put_last batch kept.rows, tt))
    holds_through ((Some attempt, held) ∷ before) after kept batch h spares = holds_through before after (kept_after kept attempt) batch h spares
    holds_through ((None, held) ∷ before) after kept batch h spares = holds_through before after kept batch h spares

  has_one : (left : List (List Row)) (rows : List Row) → AllByRecursion (HasLoad row) left → IsOneOf left rows → HasLoad row rows
  has_one [] rows all one = absurd one
  has_one (first ∷ left) rows all (inl same) = subst (HasLoad row) (sym same) all.0
  has_one (first ∷ left) rows all (inr one) = has_one left rows all.1 one

  pub load_left : {S : Type 0} (g : Ghosts S) (before after : List (Option Attempt × Held S)) (kept : Kept) (start h : Held S) (batch : List RowChange)
      → IsKept kept (state g start) → AreCalled g start (before ++ (Some (record { batch = with_load batch row; is_done = true }), h) ∷ after)
      → AllByRecursion (λ call. SparesCall row.number call.0) after
      → LeavesOnly (HasLoad row) (state g (last_after start (before ++ (Some (record { batch = with_load batch row; is_done = true }), h) ∷ after)))
  load_left g before after kept start h batch is called spares clean db sound may =
      let calls = before ++ (Some (record { batch = with_load batch row; is_done = true }), h) ∷ after in
      has_one _ _ (holds_through before after kept batch h spares).1 ((kept_calling g calls kept start is called).left clean db sound may)
