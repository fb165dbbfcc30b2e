-- Lemmas, no definition: a row put into a list in rising order, or dropped from it, leaves the order.
use Rattle.std.proofs.Common.{◌≡◌, ℕ, ◌<◌, ◌⊎◌, Bool, true, false, cond, not, ◌&&◌, ◌||◌, List, [], ◌∷◌, refl, sym, ap, ◌∙◌, arith, inl, inr, subst}
use Rattle.std.specs.Prelude.{nat_lt, ◌==◌, bytes_eq, filter}
use Rattle.std.proofs.lemmas.Bool.{false≢true, and_from, and_parts, cases_Bool}
use Rattle.std.proofs.lemmas.Bool.Decides.{nat_tests}
use Rattle.std.proofs.lemmas.Slice.Eq.{bytes_eq-Decides}
use Rattle.aq_rules.specs.Office.Office.{is_same, comes_before, rises_from, rises, with_row, without_row}

-- the cases of a first number that decides, or a tie
first_decides : (x y : ℕ) (b : Bool) → (nat_lt x y || ((x == y) && b)) ≡ true → (x < y) ⊎ ((x ≡ y) × (b ≡ true))
first_decides x y true h = elim (cases_Bool (nat_lt x y)) [ inl l ↦ inl (grind (arith, nat_tests)) | inr g ↦ inr (grind (arith, nat_tests), refl) ]
first_decides x y false h = inl (grind (arith, nat_tests))

decided_less : (x y : ℕ) (b : Bool) → x < y → (nat_lt x y || ((x == y) && b)) ≡ true
decided_less x y b h = grind (arith, nat_tests)

decided_tie : (x y : ℕ) → x ≡ y → (nat_lt x y || ((x == y) && true)) ≡ true
decided_tie x y h = grind (arith, nat_tests)

pub before-trans : (a b c : List ℕ) → comes_before a b ≡ true → comes_before b c ≡ true → comes_before a c ≡ true
before-trans a [] c p q = absurd (false≢true p)
before-trans a (y ∷ b) [] p q = absurd (false≢true q)
before-trans [] (y ∷ b) (z ∷ c) p q = refl
before-trans (x ∷ a) (y ∷ b) (z ∷ c) p q =
    elim (first_decides x y (comes_before a b) p) [
      | inl l ↦ elim (first_decides y z (comes_before b c) q) [ inl m ↦ decided_less x z _ (omega arith) | inr m ↦ decided_less x z _ (omega (arith, m.0)) ]
      | inr l ↦ elim (first_decides y z (comes_before b c) q) [
        | inl m ↦ decided_less x z _ (omega (arith, l.0))
        | inr m ↦ subst (λ t. (nat_lt x z || ((x == z) && t)) ≡ true) (sym (before-trans a b c l.1 m.1)) (decided_tie x z (omega (arith, l.0, m.0)))
      ]
    ]

undecided : (x y : ℕ) (p q r : Bool) → (p ≡ false → q ≡ false → r ≡ true)
    → (nat_lt x y || ((x == y) && p)) ≡ false → ((x == y) && q) ≡ false → (nat_lt y x || ((y == x) && r)) ≡ true
undecided x y p q true h a b = grind (arith, nat_tests)
undecided x y true q false h a b = grind (arith, nat_tests)
undecided x y false true false h a b = grind (arith, nat_tests)
undecided x y false false false h a b = absurd (false≢true (h refl refl))

pub before-total : (a b : List ℕ) → comes_before a b ≡ false → bytes_eq a b ≡ false → comes_before b a ≡ true
before-total [] [] p q = absurd (false≢true (sym q))
before-total [] (y ∷ b) p q = absurd (false≢true (sym p))
before-total (x ∷ a) [] p q = refl
before-total (x ∷ a) (y ∷ b) p q =
    undecided x y (comes_before a b) (bytes_eq a b) (comes_before b a) (before-total a b) p q

module _ {X : Type 0} (rank : X → List ℕ) where
  same_rank : (x y : X) (rows : List X) → rank x ≡ rank y → rises_from rank x rows ≡ rises_from rank y rows
  same_rank x y [] same = refl
  same_rank x y (next ∷ rows) same = ap (λ r. comes_before r (rank next) && rises_from rank next rows) same

  with_row-from : (x row : X) (rows : List X) → comes_before (rank x) (rank row) ≡ true → rises_from rank x rows ≡ true
      → rises_from rank x (with_row rank row rows) ≡ true
  with_row-from x row [] p q = and_from _ _ p refl
  with_row-from x row (first ∷ rows) p q =
      let parts = and_parts (comes_before (rank x) (rank first)) (rises_from rank first rows) q in
      elim (cases_Bool (comes_before (rank row) (rank first))) [
        | inl here ↦
            subst (λ b. rises_from rank x (cond b (row ∷ first ∷ rows) (cond (is_same (rank row) (rank first)) (row ∷ rows) (first ∷ with_row rank row rows))) ≡ true)
            (sym here) (and_from _ _ p (and_from _ _ here parts.1))
        | inr behind ↦
            subst (λ b. rises_from rank x (cond b (row ∷ first ∷ rows) (cond (is_same (rank row) (rank first)) (row ∷ rows) (first ∷ with_row rank row rows))) ≡ true)
            (sym behind)
            (elim (cases_Bool (is_same (rank row) (rank first))) [
              | inl same ↦
                  subst (λ b. rises_from rank x (cond b (row ∷ rows) (first ∷ with_row rank row rows)) ≡ true) (sym same)
                  (and_from _ _ p (same_rank row first rows ((bytes_eq-Decides (rank row) (rank first)).0 same) ∙ parts.1))
              | inr other ↦
                  subst (λ b. rises_from rank x (cond b (row ∷ rows) (first ∷ with_row rank row rows)) ≡ true) (sym other)
                  (and_from _ _ parts.0 (with_row-from first row rows (before-total (rank row) (rank first) behind other) parts.1))
            ])
      ]

  pub with_row-rises : (row : X) (rows : List X) → rises rank rows ≡ true → rises rank (with_row rank row rows) ≡ true
  with_row-rises row [] p = refl
  with_row-rises row (first ∷ rows) p =
      elim (cases_Bool (comes_before (rank row) (rank first))) [
        | inl here ↦
            subst (λ b. rises rank (cond b (row ∷ first ∷ rows) (cond (is_same (rank row) (rank first)) (row ∷ rows) (first ∷ with_row rank row rows))) ≡ true)
            (sym here) (and_from _ _ here p)
        | inr behind ↦
            subst (λ b. rises rank (cond b (row ∷ first ∷ rows) (cond (is_same (rank row) (rank first)) (row ∷ rows) (first ∷ with_row rank row rows))) ≡ true)
            (sym behind)
            (elim (cases_Bool (is_same (rank row) (rank first))) [
              | inl same ↦
                  subst (λ b. rises rank (cond b (row ∷ rows) (first ∷ with_row rank row rows)) ≡ true) (sym same)
                  (same_rank row first rows ((bytes_eq-Decides (rank row) (rank first)).0 same) ∙ p)
              | inr other ↦
                  subst (λ b. rises rank (cond b (row ∷ rows) (first ∷ with_row rank row rows)) ≡ true) (sym other)
                  (with_row-from first row rows (before-total (rank row) (rank first) behind other) p)
            ])
      ]

  from_earlier : (x y : X) (rows : List X) → comes_before (rank x) (rank y) ≡ true → rises_from rank y rows ≡ true → rises_from rank x rows ≡ true
  from_earlier x y [] p q = refl
  from_earlier x y (next ∷ rows) p q =
      let parts = and_parts (comes_before (rank y) (rank next)) (rises_from rank next rows) q in
      and_from _ _ (before-trans (rank x) (rank y) (rank next) p parts.0) parts.1

  filter-from : (keep : X → Bool) (x : X) (rows : List X) → rises_from rank x rows ≡ true → rises_from rank x (filter keep rows) ≡ true
  filter-from keep x [] p = refl
  filter-from keep x (first ∷ rows) p =
      let parts = and_parts (comes_before (rank x) (rank first)) (rises_from rank first rows) p in
      elim (cases_Bool (keep first)) [
        | inl keeps ↦ subst (λ b. rises_from rank x (cond b (first ∷ filter keep rows) (filter keep rows)) ≡ true) (sym keeps)
            (and_from _ _ parts.0 (filter-from keep first rows parts.1))
        | inr drops ↦ subst (λ b. rises_from rank x (cond b (first ∷ filter keep rows) (filter keep rows)) ≡ true) (sym drops)
            (filter-from keep x rows (from_earlier x first rows parts.0 parts.1))
      ]

  rises_rest : (first : X) (rows : List X) → rises_from rank first rows ≡ true → rises rank rows ≡ true
  rises_rest first [] p = refl
  rises_rest first (next ∷ rows) p = (and_parts (comes_before (rank first) (rank next)) (rises_from rank next rows) p).1

  pub filter-rises : (keep : X → Bool) (rows : List X) → rises rank rows ≡ true → rises rank (filter keep rows) ≡ true
  filter-rises keep [] p = refl
  filter-rises keep (first ∷ rows) p =
      elim (cases_Bool (keep first)) [
        | inl keeps ↦ subst (λ b. rises rank (cond b (first ∷ filter keep rows) (filter keep rows)) ≡ true) (sym keeps) (filter-from keep first rows p)
        | inr drops ↦ subst (λ b. rises rank (cond b (first ∷ filter keep rows) (filter keep rows)) ≡ true) (sym drops) (filter-rises keep rows (rises_rest first rows p))
      ]

  pub without_row-rises : (key : List ℕ) (rows : List X) → rises rank rows ≡ true → rises rank (without_row rank key rows) ≡ true
  without_row-rises key rows p = filter-rises (λ row. not (is_same (rank row) key)) rows p
