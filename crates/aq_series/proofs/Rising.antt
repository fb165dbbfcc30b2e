-- Lists that rise by a number: two in which the same is found are one, and what a list in the order of ranks gives rises.
use Rattle.std.proofs.Common.{◌≡◌, ℕ, ◌<◌, ◌≤◌, ◌⊎◌, Bool, true, false, cond, ◌&&◌, ◌||◌, ◌==◌, Some, None, Option, List, [], ◌∷◌, refl, ap, sym, subst, ◌∙◌, arith, inl, inr}
use Rattle.std.specs.Prelude.{find, nat_lt}
use Rattle.std.specs.List.{AllByRecursion, filter_map, cons_option, list_any}
use Rattle.std.specs.Option.{option_and_then}
use Rattle.std.proofs.lemmas.Bool.Decides.{nat_tests}
use Rattle.std.proofs.lemmas.Slice.Eq.{bytes_eq-Decides}
use Rattle.aq_rules.specs.Office.Office.{is_same, comes_before, rises, row_at}
use Rattle.aq_rules.proofs.Lookups.{rises-rest}
use Rattle.aq_rules.proofs.RisingRows.{all_later, others-after, row_at-none}

some_is : {X : Type 0} (x y : X) → Some x ≡ Some y → x ≡ y
some_is x y h = cc

none_is_not : {X : Type 0} {P : Type 0} (x : X) → None ≡ Some x → P
none_is_not x h = cc

-- ---- tests of numbers

pub not_below_itself : (n : ℕ) → nat_lt n n ≡ false
not_below_itself n = grind (arith, nat_tests)

pub last_decides : (s t : ℕ) → (nat_lt s t || ((s == t) && false)) ≡ nat_lt s t
last_decides s t = grind (arith, nat_tests)

pub below : (s t : ℕ) → nat_lt s t ≡ true → s < t
below s t h = grind (arith, nat_tests)

itself : (n : ℕ) → (n == n) ≡ true
itself n = grind (arith, nat_tests)

compared : (m n : ℕ) → (m < n) ⊎ ((n < m) ⊎ (m ≡ n))
compared m n = grind arith

other_number : (m n : ℕ) → m < n → (n == m) ≡ false
other_number m n h = grind (arith, nat_tests)

pub same_number : (m n : ℕ) → (m == n) ≡ true → m ≡ n
same_number m n h = grind (arith, nat_tests)

-- the row of a key has the key's numbers
pub row_at-is : {X : Type 0} (rank : X → List ℕ) (key : List ℕ) (rows : List X) (row : X) → row_at rank key rows ≡ Some row → is_same (rank row) key ≡ true
row_at-is rank key [] row h = cc
row_at-is rank key (e ∷ es) row h = by_test (row_at-is rank key es row) (is_same (rank e) key) refl h
  where
    by_test : (row_at rank key es ≡ Some row → is_same (rank row) key ≡ true) → (b : Bool) → is_same (rank e) key ≡ b → cond b (Some e) (row_at rank key es) ≡ Some row → is_same (rank row) key ≡ true
    by_test rest true same h = let one : e ≡ row = cc in ap (λ r. is_same (rank r) key) (sym one) ∙ same
    by_test rest false other h = rest h

-- ---- lists that rise by a number

module _ {X : Type 0} (number : X → ℕ) where
  abbrev pub Later : ℕ → List X → Type 0
  Later n xs = AllByRecursion (λ x. n < number x) xs

  abbrev pub Rising : List X → Type 0
  Rising [] = Unit {0}
  Rising (x ∷ xs) = Later (number x) xs × Rising xs

  abbrev pub found : ℕ → List X → Option X
  found n xs = find (λ x. number x == n) xs

  pub none_later : (n m : ℕ) (xs : List X) → n ≤ m → Later m xs → found n xs ≡ None
  none_later n m [] le later = refl
  none_later n m (x ∷ xs) le later =
      ap (λ b. cond b (Some x) (found n xs)) (other_number n (number x) (omega (arith, le, later.0)))
      ∙ none_later n m xs le later.1

  pub found_first : (x : X) (xs : List X) → found (number x) (x ∷ xs) ≡ Some x
  found_first x xs = ap (λ b. cond b (Some x) (found (number x) xs)) (itself (number x))

  -- one that comes first is not found in the other
  not_before : {P : Type 0} (x y : X) (xs ys : List X) → number x < number y → Later (number y) ys → found (number x) (x ∷ xs) ≡ found (number x) (y ∷ ys) → P
  not_before x y xs ys less later same =
      none_is_not x (sym (ap (λ b. cond b (Some y) (found (number x) ys)) (other_number (number x) (number y) less)
      ∙ none_later (number x) (number y) ys (omega (arith, less)) later) ∙ sym same ∙ found_first x xs)

  tails : (x y : X) (xs ys : List X) → number x ≡ number y → Later (number x) xs → Later (number y) ys → (n : ℕ) → found n (x ∷ xs) ≡ found n (y ∷ ys) → found n xs ≡ found n ys
  tails x y xs ys tied xs_later ys_later n same = by_test (number x == n) refl
    where
      by_test : (b : Bool) → (number x == n) ≡ b → found n xs ≡ found n ys
      by_test true is =
          let here = same_number (number x) n is in
          none_later n (number x) xs (omega (arith, here)) xs_later ∙ sym (none_later n (number y) ys (omega (arith, here, tied)) ys_later)
      by_test false is =
          let other : (number y == n) ≡ false = ap (λ m. m == n) (sym tied) ∙ is in
          ap (λ b. cond b (Some x) (found n xs)) (sym is) ∙ same ∙ ap (λ b. cond b (Some y) (found n ys)) other

  pub same_list : (xs ys : List X) → Rising xs → Rising ys → ((n : ℕ) → found n xs ≡ found n ys) → xs ≡ ys
  same_list [] [] xs_rise ys_rise same = refl
  same_list [] (y ∷ ys) xs_rise ys_rise same = none_is_not y (same (number y) ∙ found_first y ys)
  same_list (x ∷ xs) [] xs_rise ys_rise same = none_is_not x (sym (same (number x)) ∙ found_first x xs)
  same_list (x ∷ xs) (y ∷ ys) xs_rise ys_rise same =
      elim (compared (number x) (number y)) [
        | inl less ↦ not_before x y xs ys less ys_rise.0 (same (number x))
        | inr (inl less) ↦ not_before y x ys xs less xs_rise.0 (sym (same (number y)))
        | inr (inr tied) ↦
            let first : x ≡ y =
            some_is x y (sym (found_first x xs) ∙ same (number x) ∙ ap (λ b. cond b (Some y) (found (number x) ys)) (ap (λ n. n == number x) (sym tied) ∙ itself (number x)))
            in
            let rest : xs ≡ ys =
            same_list xs ys xs_rise.1 ys_rise.1 (λ n. tails x y xs ys tied xs_rise.0 ys_rise.0 n (same n))
            in
            (λ i. first i ∷ rest i)
      ]

-- ---- rows in the order of ranks

module _ {X : Type 0} (rank : X → List ℕ) where
  -- ---- what rows give

  module _ {Y : Type 0} (number : Y → ℕ) (give : X → Option Y) where
    module _ (orders : (a b : X) (s t : Y) → give a ≡ Some s → give b ≡ Some t → comes_before (rank a) (rank b) ≡ true → number s < number t) where
      later : (a : X) (s : Y) (rows : List X) → give a ≡ Some s → AllByRecursion (λ b. comes_before (rank a) (rank b) ≡ true) rows → Later number (number s) (filter_map give rows)
      later a s [] is all = tt
      later a s (b ∷ rows) is all = by_given (later a s rows is all.1) (give b) refl
        where
          by_given : Later number (number s) (filter_map give rows) → (o : Option Y) → give b ≡ o → Later number (number s) (cons_option o (filter_map give rows))
          by_given rest None none = rest
          by_given rest (Some t) given = (orders a b s t is given all.0, rest)

      pub rising-given : (rows : List X) → rises rank rows ≡ true → Rising number (filter_map give rows)
      rising-given [] rising = tt
      rising-given (r ∷ rows) rising = by_given (rising-given rows (rises-rest rank r rows rising)) (give r) refl
        where
          by_given : Rising number (filter_map give rows) → (o : Option Y) → give r ≡ o → Rising number (cons_option o (filter_map give rows))
          by_given rest None none = rest
          by_given rest (Some s) given = (later r s rows given (all_later rank r rows rising), rest)

    -- what is found under a number is what the row of a key gives
    module _ (key : List ℕ) (n : ℕ) (tells : (x : X) (y : Y) → give x ≡ Some y → (number y == n) ≡ is_same (rank x) key) where
      pub found-given : (rows : List X) → rises rank rows ≡ true → found number n (filter_map give rows) ≡ option_and_then give (row_at rank key rows)
      found-given [] rising = refl
      found-given (r ∷ rows) rising = by_given (found-given rows (rises-rest rank r rows rising)) (give r) refl (is_same (rank r) key) refl
        where
          by_given : found number n (filter_map give rows) ≡ option_and_then give (row_at rank key rows) → (o : Option Y) → give r ≡ o → (b : Bool) → is_same (rank r) key ≡ b
              → found number n (cons_option o (filter_map give rows)) ≡ option_and_then give (cond b (Some r) (row_at rank key rows))
          by_given rest None none true same =
              rest
              ∙ ap (option_and_then give) (row_at-none rank key rows (others-after rank key rows (subst (λ k. AllByRecursion (λ e. comes_before k (rank e) ≡ true) rows) ((bytes_eq-Decides (rank r) key).0 same) (all_later rank r rows rising))))
              ∙ sym none
          by_given rest None none false other = rest
          by_given rest (Some y) given true same = ap (λ b. cond b (Some y) (found number n (filter_map give rows))) (tells r y given ∙ same) ∙ sym given
          by_given rest (Some y) given false other = ap (λ b. cond b (Some y) (found number n (filter_map give rows))) (tells r y given ∙ other) ∙ rest

-- ---- rows that are ranked by numbers

-- what they give, each with the number by which its row is ranked
module _ {X Y : Type 0} (rank : X → List ℕ) (numbers : ℕ → List ℕ) (number : Y → ℕ) (give : X → Option Y) (ranked : (x : X) (y : Y) → give x ≡ Some y → rank x ≡ numbers (number y)) where
  pub rising-ranked : ((m n : ℕ) → comes_before (numbers m) (numbers n) ≡ nat_lt m n) → (rows : List X) → rises rank rows ≡ true → Rising number (filter_map give rows)
  rising-ranked before = rising-given rank number give in_order
    where
      in_order : (a b : X) (s t : Y) → give a ≡ Some s → give b ≡ Some t → comes_before (rank a) (rank b) ≡ true → number s < number t
      in_order a b s t first second less =
          below (number s) (number t) (sym (before (number s) (number t)) ∙ (λ i. comes_before (sym (ranked a s first) i) (sym (ranked b t second) i)) ∙ less)

  pub found-ranked : ((m n : ℕ) → is_same (numbers m) (numbers n) ≡ (m == n)) → (n : ℕ) (rows : List X) → rises rank rows ≡ true → found number n (filter_map give rows) ≡ option_and_then give (row_at rank (numbers n) rows)
  found-ranked same n = found-given rank number give (numbers n) n (λ x y given. sym (same (number y) n) ∙ ap (λ k. is_same k (numbers n)) (sym (ranked x y given)))

-- ---- what numbers give

module _ {Y : Type 0} (number : Y → ℕ) (give : ℕ → Option Y) (numbered : (n : ℕ) (y : Y) → give n ≡ Some y → number y ≡ n) where
  pub found-under : (n : ℕ) (ns : List ℕ) → found number n (filter_map give ns) ≡ cond (list_any (λ m. m == n) ns) (give n) None
  found-under n [] = refl
  found-under n (m ∷ ns) = by_given (found-under n ns) (give m) refl (m == n) refl
    where
      dropped : (b : Bool) (o : Option Y) → o ≡ None → cond b o None ≡ o
      dropped true o none = refl
      dropped false o none = sym none

      by_given : found number n (filter_map give ns) ≡ cond (list_any (λ k. k == n) ns) (give n) None → (o : Option Y) → give m ≡ o → (b : Bool) → (m == n) ≡ b
          → found number n (cons_option o (filter_map give ns)) ≡ cond (b || list_any (λ k. k == n) ns) (give n) None
      by_given rest None none true same = rest ∙ dropped (list_any (λ k. k == n) ns) (give n) (ap give (sym (same_number m n same)) ∙ none)
      by_given rest None none false other = rest
      by_given rest (Some y) given true same =
          ap (λ b. cond b (Some y) (found number n (filter_map give ns))) (ap (λ k. k == n) (numbered m y given) ∙ same)
          ∙ sym given ∙ ap give (same_number m n same)
      by_given rest (Some y) given false other =
          ap (λ b. cond b (Some y) (found number n (filter_map give ns))) (ap (λ k. k == n) (numbered m y given) ∙ other) ∙ rest

  later-under : (m : ℕ) (ns : List ℕ) → Later (λ k. k) m ns → Later number m (filter_map give ns)
  later-under m [] all = tt
  later-under m (n ∷ ns) all = by_given (later-under m ns all.1) (give n) refl
    where
      by_given : Later number m (filter_map give ns) → (o : Option Y) → give n ≡ o → Later number m (cons_option o (filter_map give ns))
      by_given rest None none = rest
      by_given rest (Some y) given = (subst (λ k. m < k) (sym (numbered n y given)) all.0, rest)

  pub rising-under : (ns : List ℕ) → Rising (λ k. k) ns → Rising number (filter_map give ns)
  rising-under [] rising = tt
  rising-under (n ∷ ns) rising = by_given (rising-under ns rising.1) (give n) refl
    where
      by_given : Rising number (filter_map give ns) → (o : Option Y) → give n ≡ o → Rising number (cons_option o (filter_map give ns))
      by_given rest None none = rest
      by_given rest (Some y) given = (subst (λ m. Later number m (filter_map give ns)) (sym (numbered n y given)) (later-under n ns rising.0), rest)
