-- Where damaged rows are found.
use Rattle.std.proofs.Common.{◌≡◌, Bool, true, false, cond, List, [], ◌∷◌, ◌++◌, refl, sym, ◌∙◌, append_assoc, append-nil}
use Rattle.std.specs.Prelude.{Some, None}
use Rattle.aq_rules.specs.Kept.Rows.{Row, Place, are_office_rows, damage, first_bad, place_of, FirstBad, FirstDamaged}

same_place : (p q : Place) → Some p ≡ Some q → q ≡ p
same_place p q e = cc

-- by any test on rows
module _ (pass : List Row → Bool) (all : List Row) where
  pub found : (before rows : List Row) (place : Place) → all ≡ before ++ rows → pass before ≡ true → first_bad pass before rows ≡ Some place → FirstBad pass all place
  found before [] place is good at = cc
  found before (row ∷ rows) place is good at =
      by_test (pass (before ++ row ∷ [])) refl at (λ next. found (before ++ row ∷ []) rows place (is ∙ sym (append_assoc before (row ∷ []) rows)) next)
    where
      by_test : (b : Bool) → pass (before ++ row ∷ []) ≡ b → cond b (first_bad pass (before ++ row ∷ []) rows) (Some (place_of before row)) ≡ Some place
          → (pass (before ++ row ∷ []) ≡ true → first_bad pass (before ++ row ∷ []) rows ≡ Some place → FirstBad pass all place) → FirstBad pass all place
      by_test true e h next = next e h
      by_test false e h next =
          record { before = before; row = row; after = rows; rows_are = is; good = good; bad = e; place_is = same_place (place_of before row) place h }

  pub none : (before rows : List Row) → all ≡ before ++ rows → pass before ≡ true → first_bad pass before rows ≡ None → pass all ≡ true
  none before [] is good at = rw (is ∙ append-nil before) good
  none before (row ∷ rows) is good at =
      by_test (pass (before ++ row ∷ [])) refl at (λ next. none (before ++ row ∷ []) rows (is ∙ sym (append_assoc before (row ∷ []) rows)) next)
    where
      by_test : (b : Bool) → pass (before ++ row ∷ []) ≡ b → cond b (first_bad pass (before ++ row ∷ []) rows) (Some (place_of before row)) ≡ None
          → (pass (before ++ row ∷ []) ≡ true → first_bad pass (before ++ row ∷ []) rows ≡ None → pass all ≡ true) → pass all ≡ true
      by_test true e h next = next e h
      by_test false e h next = cc

no_rows : are_office_rows [] ≡ true
unfolding are_office_rows
no_rows = refl

pub damage-first : (rows : List Row) (place : Place) → damage rows ≡ Some place → FirstDamaged rows place
unfolding damage
damage-first rows place at = found are_office_rows rows [] rows place refl no_rows at

pub damage-none : (rows : List Row) → damage rows ≡ None → are_office_rows rows ≡ true
unfolding damage
damage-none rows at = none are_office_rows rows [] rows refl no_rows at
