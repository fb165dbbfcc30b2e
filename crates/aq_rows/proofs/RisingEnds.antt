-- One more row at the end of rows that rise.
use Rattle.std.proofs.Common.{◌≡◌, ℕ, Bool, true, false, cond, ◌&&◌, List, [], ◌∷◌, ◌++◌, refl, sym, ap, ◌∙◌, inl, inr}
use Rattle.std.specs.Prelude.{Option, Some, None, is_none, find}
use Rattle.std.proofs.lemmas.Bool.{false≢true, and_from, and_parts, cases_Bool}
use Rattle.aq_rules.specs.Office.Office.{is_same, comes_before, rises_from, rises, row_at, with_row}
use Rattle.aq_rules.specs.Office.RowOrder.{before-trans, before-total}
use Rattle.aq_rules.proofs.RowsPlaced.{is_same-refl, find_none-first}
use Rattle.aq_rules.proofs.Lookups.{before-other, before-other_way, rises-rest}

alone : (b : Bool) → (b && true) ≡ b
alone true = refl
alone false = refl

-- of two ranks one alone comes first
not-both : (a b : List ℕ) → comes_before a b ≡ true → comes_before b a ≡ false
not-both a b less = elim (cases_Bool (comes_before b a)) [
  | inl more ↦ absurd (false≢true (sym (before-other a a (before-trans a b a less more)) ∙ is_same-refl a a refl))
  | inr is ↦ is
]

passed : {X : Type 0} (p : X → Bool) (x : X) (xs : List X) → p x ≡ false → find p xs ≡ None → find p (x ∷ xs) ≡ None
passed p x xs first rest = ap (λ b. cond b (Some x) (find p xs)) first ∙ rest

module _ {X : Type 0} (rank : X → List ℕ) where
  abbrev pub follows : List ℕ → X → Bool
  follows key row = comes_before key (rank row)

  -- the first row comes before the last
  before-last : (first : X) (rows : List X) (last : X) → rises_from rank first (rows ++ last ∷ []) ≡ true → comes_before (rank first) (rank last) ≡ true
  before-last first [] last h = (and_parts (comes_before (rank first) (rank last)) true h).0
  before-last first (next ∷ rows) last h =
      let parts = and_parts (comes_before (rank first) (rank next)) (rises_from rank next (rows ++ last ∷ [])) h in
      before-trans (rank first) (rank next) (rank last) parts.0 (before-last next rows last parts.1)

  pub with_row-last : (row : X) (rows : List X) → rises rank (rows ++ row ∷ []) ≡ true → with_row rank row rows ≡ rows ++ row ∷ []
  with_row-last row [] h = refl
  with_row-last row (first ∷ rows) h =
      let less = before-last first rows row h in
      ap (λ b. cond b (row ∷ first ∷ rows) (cond (is_same (rank row) (rank first)) (row ∷ rows) (first ∷ with_row rank row rows))) (not-both (rank first) (rank row) less)
      ∙ ap (λ b. cond b (row ∷ rows) (first ∷ with_row rank row rows)) (before-other_way (rank first) (rank row) less)
      ∙ ap (λ l. first ∷ l) (with_row-last row rows (rises-rest rank first (rows ++ row ∷ []) h))

  pub absent : (row : X) (rows : List X) → rises rank (rows ++ row ∷ []) ≡ true → row_at rank (rank row) rows ≡ None
  absent row [] h = refl
  absent row (first ∷ rows) h =
      passed (λ x. is_same (rank x) (rank row)) first rows (before-other (rank first) (rank row) (before-last first rows row h))
      (absent row rows (rises-rest rank first (rows ++ row ∷ []) h))

  none-follows : (row : X) (rows : List X) → rises rank (rows ++ row ∷ []) ≡ true → find (follows (rank row)) rows ≡ None
  none-follows row [] h = refl
  none-follows row (first ∷ rows) h =
      passed (follows (rank row)) first rows (not-both (rank first) (rank row) (before-last first rows row h))
      (none-follows row rows (rises-rest rank first (rows ++ row ∷ []) h))

  -- the row after a last one
  next-from : (first : X) (rows : List X) (last row : X) → rises_from rank first (rows ++ last ∷ []) ≡ true
      → rises_from rank first ((rows ++ last ∷ []) ++ row ∷ []) ≡ comes_before (rank last) (rank row)
  next-from first [] last row h =
      let parts = and_parts (comes_before (rank first) (rank last)) true h in
      ap (λ b. b && (comes_before (rank last) (rank row) && true)) parts.0 ∙ alone (comes_before (rank last) (rank row))
  next-from first (next ∷ rows) last row h =
      let parts = and_parts (comes_before (rank first) (rank next)) (rises_from rank next (rows ++ last ∷ [])) h in
      ap (λ b. b && rises_from rank next ((rows ++ last ∷ []) ++ row ∷ [])) parts.0 ∙ next-from next rows last row parts.1

  pub next-last : (rows : List X) (last row : X) → rises rank (rows ++ last ∷ []) ≡ true
      → rises rank ((rows ++ last ∷ []) ++ row ∷ []) ≡ comes_before (rank last) (rank row)
  next-last [] last row h = alone (comes_before (rank last) (rank row))
  next-last (first ∷ rows) last row h = next-from first rows last row h

  -- a row that none follows, and whose rank is not there
  behind-from : (first : X) (rows : List X) (row : X) → comes_before (rank first) (rank row) ≡ true → rises_from rank first rows ≡ true → find (follows (rank row)) rows ≡ None
      → row_at rank (rank row) rows ≡ None → rises_from rank first (rows ++ row ∷ []) ≡ true
  behind-from first [] row less h none new = and_from (comes_before (rank first) (rank row)) true less refl
  behind-from first (next ∷ rows) row less h none new =
      let parts = and_parts (comes_before (rank first) (rank next)) (rises_from rank next rows) h in
      let follow = find_none-first (follows (rank row)) next rows none in
      let at = find_none-first (λ x. is_same (rank x) (rank row)) next rows new in
      and_from (comes_before (rank first) (rank next)) (rises_from rank next (rows ++ row ∷ [])) parts.0
      (behind-from next rows row (behind next row follow.0 at.0) parts.1 follow.1 at.1)
    where
      behind : (x row : X) → comes_before (rank row) (rank x) ≡ false → is_same (rank x) (rank row) ≡ false → comes_before (rank x) (rank row) ≡ true
      behind x row later other = elim (cases_Bool (comes_before (rank x) (rank row))) [
        | inl is ↦ is
        | inr not ↦ absurd (false≢true (sym later ∙ before-total (rank x) (rank row) not other))
      ]

  behind-all : (rows : List X) (row : X) → rises rank rows ≡ true → find (follows (rank row)) rows ≡ None → row_at rank (rank row) rows ≡ None → rises rank (rows ++ row ∷ []) ≡ true
  behind-all [] row h none new = refl
  behind-all (first ∷ rows) row h none new =
      let follow = find_none-first (follows (rank row)) first rows none in
      let at = find_none-first (λ x. is_same (rank x) (rank row)) first rows new in
      let less : comes_before (rank first) (rank row) ≡ true = elim (cases_Bool (comes_before (rank first) (rank row))) [
        | inl is ↦ is
        | inr not ↦ absurd (false≢true (sym follow.0 ∙ before-total (rank first) (rank row) not at.0))
      ] in
      behind-from first rows row less h follow.1 at.1

  -- the two questions that say whether a row may come last
  pub last-test : (rows : List X) (row : X) → rises rank rows ≡ true → (is_none (find (follows (rank row)) rows) && is_none (row_at rank (rank row) rows)) ≡ rises rank (rows ++ row ∷ [])
  last-test rows row h = choose (find (follows (rank row)) rows) (row_at rank (rank row) rows) (rises rank (rows ++ row ∷ [])) refl refl refl
    where
      choose : (f g : Option X) (b : Bool) → find (follows (rank row)) rows ≡ f → row_at rank (rank row) rows ≡ g → rises rank (rows ++ row ∷ []) ≡ b → (is_none f && is_none g) ≡ b
      choose None None true e k r = refl
      choose None None false e k r = sym (behind-all rows row h e k) ∙ r
      choose None (Some x) true e k r = let both : None ≡ Some x = sym (absent row rows r) ∙ k in cc
      choose None (Some x) false e k r = refl
      choose (Some x) g true e k r = let both : None ≡ Some x = sym (none-follows row rows r) ∙ e in cc
      choose (Some x) g false e k r = refl
