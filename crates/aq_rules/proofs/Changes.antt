-- The batch of a load, done to the office before it, gives the office after it.
use Rattle.std.proofs.Common.{◌≡◌, ℕ, Bool, true, false, cond, List, [], ◌∷◌, map, refl, sym, ap, ◌∙◌}
use Rattle.std.specs.Prelude.{Option, Some, None, fold, filter_map}
use Rattle.std.specs.List.{cons_option}
use Rattle.std.proofs.lemmas.Bool.{and_from, and_parts}
use Rattle.aq_rules.specs.Office.Office.{is_same, comes_before, rises_from, rises, row_at, with_row}
use Rattle.aq_rules.specs.Office.Load.{keys_of_either}
use Rattle.aq_rules.proofs.Elements.{Every}
use Rattle.aq_rules.specs.Office.RowOrder.{before-trans, with_row-rises}
use Rattle.aq_rules.proofs.Lookups.{same-is, before-other, found-with, rises-rest, one_list}

-- ---- keys of either list

module _ {K : Type 0} (rank : K → List ℕ) where
  pub either-rises : (before now : List K) → rises rank before ≡ true → rises rank (keys_of_either rank before now) ≡ true
  either-rises before [] rising = rising
  either-rises before (key ∷ now) rising = either-rises (with_row rank key before) now (with_row-rises rank key before rising)

  some_left : (b : Bool) (k : K) (o : Option K) → cond b (Some k) o ≡ None → (b ≡ false) × (o ≡ None)
  some_left true k o h = cc
  some_left false k o h = (refl, h)

  -- a key that is none of them is none of either list
  pub none-of_first : (at : List ℕ) (before now : List K) → row_at rank at (keys_of_either rank before now) ≡ None → row_at rank at before ≡ None
  none-of_first at before [] none = none
  none-of_first at before (key ∷ now) none =
      (some_left (is_same (rank key) at) key (row_at rank at before) (sym (found-with rank at key before) ∙ none-of_first at (with_row rank key before) now none)).1

  pub none-of_second : (at : List ℕ) (before now : List K) → row_at rank at (keys_of_either rank before now) ≡ None → row_at rank at now ≡ None
  none-of_second at before [] none = refl
  none-of_second at before (key ∷ now) none =
      let first = some_left (is_same (rank key) at) key (row_at rank at before) (sym (found-with rank at key before) ∙ none-of_first at (with_row rank key before) now none) in
      ap (λ b. cond b (Some key) (row_at rank at now)) first.0 ∙ none-of_second at (with_row rank key before) now none

pub keys-rise : {X K : Type 0} (key : X → K) (rank : K → List ℕ) (rows : List X) → rises (λ x. rank (key x)) rows ≡ true → rises rank (map key rows) ≡ true
keys-rise key rank [] rising = refl
keys-rise {X = X} key rank (x ∷ rows) rising = from x rows rising
  where
    from : (first : X) (rest : List X) → rises_from (λ x. rank (key x)) first rest ≡ true → rises_from rank (key first) (map key rest) ≡ true
    from first [] rising = refl
    from first (next ∷ rest) rising =
        let parts = and_parts (comes_before (rank (key first)) (rank (key next))) (rises_from (λ x. rank (key x)) next rest) rising in
        and_from _ _ parts.0 (from next rest parts.1)

-- ---- the changes of a list of rows

abbrev pub done_if : {X C : Type 0} → (List X → C → List X) → List X → Option C → List X
done_if applied rows None = rows
done_if applied rows (Some c) = applied rows c

fold-option : {X C : Type 0} (applied : List X → C → List X) (rows : List X) (c : Option C) (cs : List C)
    → fold applied rows (cons_option c cs) ≡ fold applied (done_if applied rows c) cs
fold-option applied rows None cs = refl
fold-option applied rows (Some c) cs = refl

-- changes that are none of these rows' leave them
pub idle : {X K C : Type 0} (applied : List X → C → List X) (change : K → Option C) → ((k : K) (rows : List X) → done_if applied rows (change k) ≡ rows)
    → (keys : List K) (rows : List X) → fold applied rows (filter_map change keys) ≡ rows
idle applied change same [] rows = refl
idle applied change same (k ∷ keys) rows =
    fold-option applied rows (change k) (filter_map change keys) ∙ ap (λ l. fold applied l (filter_map change keys)) (same k rows) ∙ idle applied change same keys rows

module _ {X K C : Type 0} (key : X → K) (rank : K → List ℕ) (change : K → Option C) (applied : List X → C → List X) (before now : List X) where
  abbrev rank_of : X → List ℕ
  rank_of x = rank (key x)

  abbrev At : List ℕ → List X → Option X
  At at rows = row_at rank_of at rows

  abbrev applied_if : List X → Option C → List X
  applied_if rows c = done_if applied rows c

  -- what a key's change does to rows that stand at the key as before
  pub record GoodChange : Type 0 where
    pub rising : (k : K) (rows : List X) → rises rank_of rows ≡ true → rises rank_of (applied_if rows (change k)) ≡ true
    pub found : (k : K) (at : List ℕ) (rows : List X) → At (rank k) rows ≡ At (rank k) before
        → At at (applied_if rows (change k)) ≡ cond (is_same (rank k) at) (At (rank k) now) (At at rows)

  module _ (good : GoodChange) (now_rises : rises rank_of now ≡ true) where
    Same : List X → List K → Type 0
    Same rows keys = Every (λ k. At (rank k) rows ≡ At (rank k) before) keys

    module _ (k : K) (rows : List X) (here : At (rank k) rows ≡ At (rank k) before) where
      kept : (other : K) → is_same (rank k) (rank other) ≡ false → At (rank other) rows ≡ At (rank other) before
          → At (rank other) (applied_if rows (change k)) ≡ At (rank other) before
      kept other differs same =
          good.found k (rank other) rows here ∙ ap (λ b. cond b (At (rank k) now) (At (rank other) rows)) differs ∙ same

      -- a key's change leaves the rows of later keys
      still-same : (first : K) (keys : List K) → comes_before (rank k) (rank first) ≡ true → rises_from rank first keys ≡ true
          → Same rows (first ∷ keys) → Same (applied_if rows (change k)) (first ∷ keys)
      unfolding Same
      still-same first [] earlier rising same = (kept first (before-other (rank k) (rank first) earlier) same.0, tt)
      still-same first (next ∷ keys) earlier rising same =
          let parts = and_parts (comes_before (rank first) (rank next)) (rises_from rank next keys) rising in (
            kept first (before-other (rank k) (rank first) earlier) same.0,
            still-same next keys (before-trans (rank k) (rank first) (rank next) earlier parts.0) parts.1 same.1,
          )

      rest-same : (keys : List K) → rises_from rank k keys ≡ true → Same rows keys → Same (applied_if rows (change k)) keys
      unfolding Same
      rest-same [] rising same = tt
      rest-same (first ∷ keys) rising same =
          let parts = and_parts (comes_before (rank k) (rank first)) (rises_from rank first keys) rising in
          still-same first keys parts.0 parts.1 same

      rest-others : (keys : List K) → ((at : List ℕ) → row_at rank at (k ∷ keys) ≡ None → At at rows ≡ At at now)
          → (at : List ℕ) → row_at rank at keys ≡ None → At at (applied_if rows (change k)) ≡ At at now
      rest-others keys others at none = good.found k at rows here ∙ by_test (is_same (rank k) at) refl
        where
          by_test : (b : Bool) → is_same (rank k) at ≡ b → cond b (At (rank k) now) (At at rows) ≡ At at now
          by_test true e = ap (λ l. At l now) (same-is (rank k) at e)
          by_test false e = others at (ap (λ b. cond b (Some k) (row_at rank at keys)) e ∙ none)

    after-changes : (keys : List K) (rows : List X) → rises rank keys ≡ true → rises rank_of rows ≡ true → Same rows keys
        → ((at : List ℕ) → row_at rank at keys ≡ None → At at rows ≡ At at now) → fold applied rows (filter_map change keys) ≡ now
    unfolding Same
    after-changes [] rows rising rows_rise same others = one_list rank_of rows now rows_rise now_rises (λ at. others at refl)
    after-changes (k ∷ keys) rows rising rows_rise same others =
        fold-option applied rows (change k) (filter_map change keys)
        ∙ after-changes keys (applied_if rows (change k)) (rises-rest rank k keys rising) (good.rising k rows rows_rise)
        (rest-same k rows same.0 keys rising same.1) (rest-others k rows same.0 keys others)

    unchanged : (keys : List K) → Same before keys
    unfolding Same
    unchanged [] = tt
    unchanged (k ∷ keys) = (refl, unchanged keys)

    no-key : (at : List ℕ) (rows : List X) → row_at rank at (map key rows) ≡ None → At at rows ≡ None
    no-key at [] none = refl
    no-key at (x ∷ rows) none =
        let parts = some_left rank (is_same (rank_of x) at) (key x) (row_at rank at (map key rows)) none in
        ap (λ b. cond b (Some x) (At at rows)) parts.0 ∙ no-key at rows parts.1

    pub changes-done : rises rank_of before ≡ true
        → fold applied before (filter_map change (keys_of_either rank (map key before) (map key now))) ≡ now
    changes-done before_rises =
        let keys = keys_of_either rank (map key before) (map key now) in
        after-changes keys before (either-rises rank (map key before) (map key now) (keys-rise key rank before before_rises)) before_rises (unchanged keys)
        (λ at none.
        no-key at before (none-of_first rank at (map key before) (map key now) none)
        ∙ sym (no-key at now (none-of_second rank at (map key before) (map key now) none)))
