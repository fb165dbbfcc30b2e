-- The greatest value of a list, and the latest of some records.
use Rattle.std.proofs.Common.{◌≡◌, ℕ, zero, suc, ◌<◌, ◌≤◌, Bool, true, false, cond, List, [], ◌∷◌, length, get_or, refl, arith}
use Rattle.std.specs.Prelude.{ℤ, ◌≤ℤ◌, int_lt, nat_lt, Option, Some, None, MatchOption, IsSomeAnd, All, Contains, fold}
use Rattle.std.proofs.lemmas.Int.{ints}
use Rattle.std.proofs.lemmas.Bool.Decides.{nat_tests}
use Rattle.std.proofs.lemmas.List.Elements.{All-cons, All-tail}
use Rattle.std.specs.Int.{int_max}
use Rattle.aq_rules.specs.Lists.{greater, greatest, later, latest}

-- an element after the first one
further : {X : Type 0} (x : X) (xs : List X) (y : X) → Contains xs y → Contains (x ∷ xs) y
further x xs y h = (suc h.0, omega (arith, h.1), h.2)

first_of_two : {X : Type 0} (a b r : X) (xs : List X) → Contains (a ∷ xs) r → Contains (a ∷ b ∷ xs) r
first_of_two a b r xs h = by_place h.0 h.1 h.2
  where
    by_place : (k : ℕ) → k < length (a ∷ xs) → get_or (a ∷ xs) k r ≡ r → Contains (a ∷ b ∷ xs) r
    by_place zero within e = (0, omega arith, e)
    by_place (suc k) within e = (suc (suc k), omega arith, e)

abbrev IsGreatest : List ℤ → ℤ → Type 0
IsGreatest values top = Contains values top × All (λ v. v ≤ℤ top) values

at_most_itself : (v : ℤ) → v ≤ℤ v
at_most_itself v = omega (arith, ints)

-- of two values, the one that is not below the other
top_of_two : (a b r : ℤ) (xs : List ℤ) (t : Bool) → int_lt b a ≡ t → IsGreatest (cond t a b ∷ xs) r → IsGreatest (a ∷ b ∷ xs) r
top_of_two a b r xs true above h =
    let top : a ≤ℤ r = h.1 0 a (omega arith) in
    let rest = All-tail (λ v. v ≤ℤ r) a xs h.1 in
    (first_of_two a b r xs h.0, All-cons (λ v. v ≤ℤ r) a (b ∷ xs) top (All-cons (λ v. v ≤ℤ r) b xs (grind (arith, ints)) rest))
top_of_two a b r xs false above h =
    let top : b ≤ℤ r = h.1 0 b (omega arith) in
    let rest = All-tail (λ v. v ≤ℤ r) b xs h.1 in
    (further a (b ∷ xs) r h.0, All-cons (λ v. v ≤ℤ r) a (b ∷ xs) (grind (arith, ints)) (All-cons (λ v. v ≤ℤ r) b xs top rest))

top_some : (a b : ℤ) (xs : List ℤ) (o : Option ℤ) → IsSomeAnd o (IsGreatest (int_max a b ∷ xs)) → IsSomeAnd o (IsGreatest (a ∷ b ∷ xs))
top_some a b xs None h = h
top_some a b xs (Some r) h = top_of_two a b r xs (int_lt b a) refl h

greatest_from : (a : ℤ) (xs : List ℤ) → IsSomeAnd (fold greater (Some a) xs) (IsGreatest (a ∷ xs))
greatest_from a [] = ((0, omega arith, refl), All-cons (λ v. v ≤ℤ a) a [] (at_most_itself a) (λ k d within. absurd (omega (arith, within))))
greatest_from a (b ∷ xs) = top_some a b xs (fold greater (Some (int_max a b)) xs) (greatest_from (int_max a b) xs)

top_matches : (xs : List ℤ) (o : Option ℤ) → IsSomeAnd o (IsGreatest xs) → MatchOption o (xs ≡ []) (IsGreatest xs)
top_matches xs None h = absurd h
top_matches xs (Some r) h = h

pub greatest-is : (values : List ℤ) → MatchOption (greatest values) (values ≡ []) (IsGreatest values)
greatest-is [] = refl
greatest-is (v ∷ vs) = top_matches (v ∷ vs) (fold greater (Some v) vs) (greatest_from v vs)

module _ {X : Type 0} (day : X → ℕ) where
  abbrev IsLatest : List X → X → Type 0
  IsLatest xs r = Contains xs r × All (λ o. day o ≤ day r) xs

  of_two : (a b r : X) (xs : List X) (t : Bool) (k : ℕ) → k < length (cond t a b ∷ xs) → get_or (cond t a b ∷ xs) k r ≡ r → Contains (a ∷ b ∷ xs) r
  of_two a b r xs true zero within e = (0, omega arith, e)
  of_two a b r xs false zero within e = (1, omega arith, e)
  of_two a b r xs t (suc k) within e = (suc (suc k), omega arith, e)

  at_head : (c r : X) (xs : List X) → All (λ o. day o ≤ day r) (c ∷ xs) → day c ≤ day r
  at_head c r xs all = all 0 c (omega arith)

  joins : (a b r : X) (xs : List X) (t : Bool) → nat_lt (day b) (day a) ≡ t → IsLatest (cond t a b ∷ xs) r → IsLatest (a ∷ b ∷ xs) r
  joins a b r xs true earlier h =
      let top = at_head a r xs h.1 in
      let before : day b ≤ day r = grind (arith, nat_tests) in
      (of_two a b r xs true h.0.0 h.0.1 h.0.2, All-cons (λ o. day o ≤ day r) a (b ∷ xs) top (All-cons (λ o. day o ≤ day r) b xs before (All-tail (λ o. day o ≤ day r) a xs h.1)))
  joins a b r xs false earlier h =
      let top = at_head b r xs h.1 in
      let before : day a ≤ day r = grind (arith, nat_tests) in
      (of_two a b r xs false h.0.0 h.0.1 h.0.2, All-cons (λ o. day o ≤ day r) a (b ∷ xs) before (All-cons (λ o. day o ≤ day r) b xs top (All-tail (λ o. day o ≤ day r) b xs h.1)))

  joins_some : (a b : X) (xs : List X) (o : Option X) → IsSomeAnd o (IsLatest (cond (nat_lt (day b) (day a)) a b ∷ xs)) → IsSomeAnd o (IsLatest (a ∷ b ∷ xs))
  joins_some a b xs None h = h
  joins_some a b xs (Some r) h = joins a b r xs (nat_lt (day b) (day a)) refl h

  latest_from : (a : X) (xs : List X) → IsSomeAnd (fold (later day) (Some a) xs) (IsLatest (a ∷ xs))
  latest_from a [] = ((0, omega arith, refl), All-cons (λ o. day o ≤ day a) a [] (omega arith) (λ k d within. absurd (omega (arith, within))))
  latest_from a (b ∷ xs) =
      joins_some a b xs (fold (later day) (Some (cond (nat_lt (day b) (day a)) a b)) xs) (latest_from (cond (nat_lt (day b) (day a)) a b) xs)

  matches : (xs : List X) (o : Option X) → IsSomeAnd o (IsLatest xs) → MatchOption o (xs ≡ []) (IsLatest xs)
  matches xs None h = absurd h
  matches xs (Some r) h = h

  pub latest-is : (xs : List X) → MatchOption (latest day xs) (xs ≡ []) (IsLatest xs)
  latest-is [] = refl
  latest-is (x ∷ xs) = matches (x ∷ xs) (fold (later day) (Some x) xs) (latest_from x xs)
