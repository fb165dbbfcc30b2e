-- A value put among values that fall, and the four greatest.
use Rattle.std.proofs.Common.{◌≡◌, Bool, true, false, not, List, [], ◌∷◌, sym, refl, ◌∙◌}
use Rattle.std.specs.Prelude.{ℤ, int_lt, Option, Some, None, slice_get}
use Rattle.std.specs.Option.{option_map_or}
use Rattle.std.proofs.lemmas.Bool.{false≢true}
use Rattle.aq_rules.specs.Lists.{ranked_in}
use Rattle.aq_ozone.specs.declared.top_four.TopFour.{TopFour}
use Rattle.aq_ozone.specs.FourGreatest.{four_of}

abbrev pub is_below : ℤ → Option ℤ → Bool
is_below value other = option_map_or (λ o. int_lt value o) other false

flip : (b : Bool) → not b ≡ true → b ≡ false
flip true h = absurd (false≢true h)
flip false h = refl

-- before the first value that is not above it
here : (v : ℤ) (values : List ℤ) → not (is_below v (slice_get values 0)) ≡ true → ranked_in v values ≡ v ∷ values
here v [] h = refl
here v (w ∷ ws) h = rw (flip (int_lt v w) h) refl

unflip : (b : Bool) → not b ≡ false → b ≡ true
unflip true h = refl
unflip false h = absurd (false≢true (sym h))

none_below : (v : ℤ) → not (is_below v None) ≡ false → ⊥
none_below v h = false≢true (sym h)

-- past one that is
past : (v w : ℤ) (ws : List ℤ) → not (int_lt v w) ≡ false → ranked_in v (w ∷ ws) ≡ w ∷ ranked_in v ws
past v w ws h = rw (unflip (int_lt v w) h) refl

-- the value that is put, as the machine has it
module _ (v m : ℤ) (same : m ≡ v) where
  abbrev stands : Option ℤ → Bool → Type 0
  stands other b = not (is_below v other) ≡ b

  -- as the machine tests it
  abbrev tested : Option ℤ → Bool → Type 0
  tested other b = not (is_below m other) ≡ b

  first_of : (values : List ℤ) → stands (slice_get values 0) true
      → (let top : TopFour = record { first = Some m; second = slice_get values 0; third = slice_get values 1; fourth = slice_get values 2 } in top) ≡ four_of (ranked_in v values)
  first_of values h = rw same (rw (here v values h) refl)

  second_of : (values : List ℤ) → stands (slice_get values 0) false → stands (slice_get values 1) true
      → (let top : TopFour = record { first = slice_get values 0; second = Some m; third = slice_get values 1; fourth = slice_get values 2 } in top) ≡ four_of (ranked_in v values)
  second_of [] a h = absurd (none_below v a)
  second_of (w ∷ ws) a h = rw same (rw (past v w ws a) (rw (here v ws h) refl))

  third_of : (values : List ℤ) → stands (slice_get values 0) false → stands (slice_get values 1) false → stands (slice_get values 2) true
      → (let top : TopFour = record { first = slice_get values 0; second = slice_get values 1; third = Some m; fourth = slice_get values 2 } in top) ≡ four_of (ranked_in v values)
  third_of [] a b h = absurd (none_below v a)
  third_of (w ∷ []) a b h = absurd (none_below v b)
  third_of (w ∷ x ∷ xs) a b h = rw same (rw (past v w (x ∷ xs) a) (rw (past v x xs b) (rw (here v xs h) refl)))

  fourth_of : (values : List ℤ) → stands (slice_get values 0) false → stands (slice_get values 1) false → stands (slice_get values 2) false → stands (slice_get values 3) true
      → (let top : TopFour = record { first = slice_get values 0; second = slice_get values 1; third = slice_get values 2; fourth = Some m } in top) ≡ four_of (ranked_in v values)
  fourth_of [] a b c h = absurd (none_below v a)
  fourth_of (w ∷ []) a b c h = absurd (none_below v b)
  fourth_of (w ∷ x ∷ []) a b c h = absurd (none_below v c)
  fourth_of (w ∷ x ∷ y ∷ ys) a b c h = rw same (rw (past v w (x ∷ y ∷ ys) a) (rw (past v x (y ∷ ys) b) (rw (past v y ys c) (rw (here v ys h) refl))))

  none_of : (values : List ℤ) → stands (slice_get values 0) false → stands (slice_get values 1) false → stands (slice_get values 2) false → stands (slice_get values 3) false
      → four_of values ≡ four_of (ranked_in v values)
  none_of [] a b c d = absurd (none_below v a)
  none_of (w ∷ []) a b c d = absurd (none_below v b)
  none_of (w ∷ x ∷ []) a b c d = absurd (none_below v c)
  none_of (w ∷ x ∷ y ∷ []) a b c d = absurd (none_below v d)
  none_of (w ∷ x ∷ y ∷ z ∷ zs) a b c d = rw (past v w (x ∷ y ∷ z ∷ zs) a) (rw (past v x (y ∷ z ∷ zs) b) (rw (past v y (z ∷ zs) c) (rw (past v z zs d) refl)))

  module _ (values : List ℤ) (top : TopFour) (is : top ≡ four_of values) where
    at_first : {b : Bool} → tested top.first b → stands (slice_get values 0) b
    at_first h = sym (λ i. not (is_below (same i) (is i).first)) ∙ h

    at_second : {b : Bool} → tested top.second b → stands (slice_get values 1) b
    at_second h = sym (λ i. not (is_below (same i) (is i).second)) ∙ h

    at_third : {b : Bool} → tested top.third b → stands (slice_get values 2) b
    at_third h = sym (λ i. not (is_below (same i) (is i).third)) ∙ h

    at_fourth : {b : Bool} → tested top.fourth b → stands (slice_get values 3) b
    at_fourth h = sym (λ i. not (is_below (same i) (is i).fourth)) ∙ h

    pub first_place : tested top.first true
        → (let put : TopFour = record { first = Some m; second = top.first; third = top.second; fourth = top.third } in put) ≡ four_of (ranked_in v values)
    first_place a =
        (λ i. record { first = Some m; second = (is i).first; third = (is i).second; fourth = (is i).third }) ∙ first_of values (at_first a)

    pub second_place : tested top.first false → tested top.second true
        → (let put : TopFour = record { first = top.first; second = Some m; third = top.second; fourth = top.third } in put) ≡ four_of (ranked_in v values)
    second_place a b =
        (λ i. record { first = (is i).first; second = Some m; third = (is i).second; fourth = (is i).third }) ∙ second_of values (at_first a) (at_second b)

    pub third_place : tested top.first false → tested top.second false → tested top.third true
        → (let put : TopFour = record { first = top.first; second = top.second; third = Some m; fourth = top.third } in put) ≡ four_of (ranked_in v values)
    third_place a b c =
        (λ i. record { first = (is i).first; second = (is i).second; third = Some m; fourth = (is i).third }) ∙ third_of values (at_first a) (at_second b) (at_third c)

    pub fourth_place : tested top.first false → tested top.second false → tested top.third false → tested top.fourth true
        → (let put : TopFour = record { first = top.first; second = top.second; third = top.third; fourth = Some m } in put) ≡ four_of (ranked_in v values)
    fourth_place a b c d =
        (λ i. record { first = (is i).first; second = (is i).second; third = (is i).third; fourth = Some m }) ∙ fourth_of values (at_first a) (at_second b) (at_third c) (at_fourth d)

    pub no_place : tested top.first false → tested top.second false → tested top.third false → tested top.fourth false → top ≡ four_of (ranked_in v values)
    no_place a b c d = is ∙ none_of values (at_first a) (at_second b) (at_third c) (at_fourth d)
