-- A row whose rank is above those of all others stands last.
use Rattle.std.proofs.Common.{◌≡◌, ℕ, true, List, [], ◌∷◌, ◌++◌, None, refl}
use Rattle.std.specs.Prelude.{find}
use Rattle.std.proofs.lemmas.Bool.{and_parts}
use Rattle.aq_rules.specs.Office.Office.{is_same, comes_before, rises_from, rises, with_row, row_at}
use Rattle.aq_rules.specs.Office.RowOrder.{before-trans}
use Rattle.aq_rules.proofs.Elements.{Every}
use Rattle.aq_rules.proofs.Lookups.{before-back, before-other, before-other_way}

module _ {X : Type 0} (rank : X → List ℕ) where
  last-from : (first row : X) (rows : List X) → rises_from rank first (rows ++ row ∷ []) ≡ true → comes_before (rank first) (rank row) ≡ true
  last-from first row [] h = (and_parts (comes_before (rank first) (rank row)) true h).0
  last-from first row (next ∷ rows) h =
      let parts = and_parts (comes_before (rank first) (rank next)) (rises_from rank next (rows ++ row ∷ [])) h in
      before-trans (rank first) (rank next) (rank row) parts.0 (last-from next row rows parts.1)

  rest-rises : (first row : X) (rows : List X) → rises_from rank first (rows ++ row ∷ []) ≡ true → rises rank (rows ++ row ∷ []) ≡ true
  rest-rises first row [] h = refl
  rest-rises first row (next ∷ rows) h = (and_parts (comes_before (rank first) (rank next)) (rises_from rank next (rows ++ row ∷ [])) h).1

  pub all-before : (row : X) (rows : List X) → rises rank (rows ++ row ∷ []) ≡ true → Every (λ x. comes_before (rank x) (rank row) ≡ true) rows
  all-before row [] h = tt
  all-before row (first ∷ rows) h = (last-from first row rows h, all-before row rows (rest-rises first row rows h))

  placed-last : (row : X) (rows : List X) → Every (λ x. comes_before (rank x) (rank row) ≡ true) rows → with_row rank row rows ≡ rows ++ row ∷ []
  placed-last row [] h = refl
  placed-last row (first ∷ rows) h =
      rw (before-back (rank first) (rank row) h.0, before-other_way (rank first) (rank row) h.0, placed-last row rows h.1) refl

  not-found : (row : X) (rows : List X) → Every (λ x. comes_before (rank x) (rank row) ≡ true) rows → find (λ x. is_same (rank x) (rank row)) rows ≡ None
  not-found row [] h = refl
  not-found row (first ∷ rows) h = rw (before-other (rank first) (rank row) h.0) (not-found row rows h.1)

  pub with_last : (row : X) (rows : List X) → rises rank (rows ++ row ∷ []) ≡ true → with_row rank row rows ≡ rows ++ row ∷ []
  with_last row rows h = placed-last row rows (all-before row rows h)

  pub last-new : (row : X) (rows : List X) → rises rank (rows ++ row ∷ []) ≡ true → row_at rank (rank row) rows ≡ None
  last-new row rows h = not-found row rows (all-before row rows h)
