-- In a list that rises no rank comes twice; and how many of some things fit the days of a span.
use Rattle.std.proofs.Common.{◌≡◌, ℕ, zero, suc, ◌+◌, ◌<◌, ◌≤◌, Bool, true, false, ◌&&◌, ◌||◌, cond, List, [], ◌∷◌, length, refl, subst, ◌∙◌, arith}
use Rattle.std.specs.Prelude.{◌==◌, nat_lt}
use Rattle.std.specs.List.{sum_by, count_by, range_with_len}
use Rattle.std.proofs.lemmas.List.Sums.{sum_by-cons, sum_by-le-sum_by}
use Rattle.std.proofs.lemmas.Bool.Decides.{nat_tests}
use Rattle.std.proofs.lemmas.Slice.Eq.{bytes_eq-Decides}
use Rattle.std.proofs.lemmas.Bool.{and_parts}
use Rattle.aq_rules.proofs.Elements.{Every}
use Rattle.aq_rules.specs.Office.RowOrder.{before-trans}
use Rattle.aq_rules.specs.Office.Office.{is_same, comes_before, rises_from, rises}

-- ---- the order of ranks

pub before-itself : (xs : List ℕ) → comes_before xs xs ≡ true → ⊥
before-itself [] h = cc
before-itself (x ∷ xs) h = by_tests (nat_lt x x) (x == x) (comes_before xs xs) h (λ l. absurd (grind (arith, nat_tests))) (before-itself xs)
  where
    by_tests : (a b c : Bool) → (a || (b && c)) ≡ true → (a ≡ true → ⊥) → (c ≡ true → ⊥) → ⊥
    by_tests true b c h p q = p refl
    by_tests false b c h p q = q (and_parts b c h).1

module _ {X : Type 0} (rank : X → List ℕ) where
  abbrev pub with_rank : List ℕ → List X → ℕ
  with_rank key rows = count_by (λ row. is_same (rank row) key) rows

  count-cons : (key : List ℕ) (row : X) (rows : List X) → with_rank key (row ∷ rows) ≡ cond (is_same (rank row) key) 1 0 + with_rank key rows
  count-cons key row rows = sum_by-cons (λ r. cond (is_same (rank r) key) 1 0) row rows

  not_same : (key : List ℕ) (row : X) → comes_before key (rank row) ≡ true → is_same (rank row) key ≡ false
  not_same key row before = by_test (is_same (rank row) key) refl
    where
      by_test : (b : Bool) → is_same (rank row) key ≡ b → b ≡ false
      by_test false e = refl
      by_test true e =
          let same : rank row ≡ key = (bytes_eq-Decides (rank row) key).0 e in
          let P : List ℕ → Type 0 = λ l. comes_before key l ≡ true in
          absurd (before-itself key (subst P same before))

  none_above : (key : List ℕ) (row : X) (rows : List X) → comes_before key (rank row) ≡ true → rises_from rank row rows ≡ true → with_rank key (row ∷ rows) ≡ 0
  none_above key row [] before rising = count-cons key row [] ∙ rw (not_same key row before) refl
  none_above key row (next ∷ rows) before rising =
      let parts = and_parts (comes_before (rank row) (rank next)) (rises_from rank next rows) rising in
      let rest = none_above key next rows (before-trans key (rank row) (rank next) before parts.0) parts.1 in
      count-cons key row (next ∷ rows) ∙ rw (not_same key row before) (rw rest refl)

  rises-rest : (row : X) (rows : List X) → rises_from rank row rows ≡ true → rises rank rows ≡ true
  rises-rest row [] rising = refl
  rises-rest row (next ∷ rows) rising = (and_parts (comes_before (rank row) (rank next)) (rises_from rank next rows) rising).1

  none_behind : (key : List ℕ) (row : X) (rows : List X) → rank row ≡ key → rises_from rank row rows ≡ true → with_rank key rows ≡ 0
  none_behind key row [] same rising = refl
  none_behind key row (next ∷ rows) same rising =
      let parts = and_parts (comes_before (rank row) (rank next)) (rises_from rank next rows) rising in
      let P : List ℕ → Type 0 = λ l. comes_before l (rank next) ≡ true in
      none_above key next rows (subst P same parts.0) parts.1

  -- a rank comes once at most
  pub one_rank : (key : List ℕ) (rows : List X) → rises rank rows ≡ true → with_rank key rows ≤ 1
  one_rank key [] rising = omega arith
  one_rank key (row ∷ rows) rising = by_test (is_same (rank row) key) refl (one_rank key rows (rises-rest row rows rising))
    where
      by_test : (b : Bool) → is_same (rank row) key ≡ b → with_rank key rows ≤ 1 → with_rank key (row ∷ rows) ≤ 1
      by_test true e rest =
          let none = none_behind key row rows ((bytes_eq-Decides (rank row) key).0 e) rising in
          let first : with_rank key (row ∷ rows) ≡ 1 + with_rank key rows = count-cons key row rows ∙ rw e refl in
          omega (arith, first, none)
      by_test false e rest =
          let first : with_rank key (row ∷ rows) ≡ 0 + with_rank key rows = count-cons key row rows ∙ rw e refl in
          omega (arith, first, rest)

-- ---- things that are put on days of a span

module _ {X : Type 0} (day : X → ℕ) where
  abbrev pub on : ℕ → List X → ℕ
  on d xs = count_by (λ x. day x == d) xs

  abbrev by_days : List ℕ → List X → ℕ
  by_days days xs = sum_by (λ d. on d xs) days

  abbrev places : List ℕ → X → ℕ
  places days x = count_by (λ d. day x == d) days

  add_turns : (a b c d : ℕ) → a + b + (c + d) ≡ a + c + (b + d)
  add_turns a b c d = omega arith

  -- one more thing adds its places
  one_more : (days : List ℕ) (x : X) (xs : List X) → by_days days (x ∷ xs) ≡ places days x + by_days days xs
  one_more [] x xs = refl
  one_more (d ∷ days) x xs =
      let here = sum_by-cons (λ y. cond (day y == d) 1 0) x xs in
      let rest = one_more days x xs in
      let left = sum_by-cons (λ e. on e (x ∷ xs)) d days in
      let right = sum_by-cons (λ e. on e xs) d days in
      let one = sum_by-cons (λ e. cond (day x == e) 1 0) d days in
      omega (arith, here, rest, left, right, one)

  none_yet : (days : List ℕ) → by_days days [] ≡ 0
  none_yet [] = refl
  none_yet (d ∷ days) = omega (arith, sum_by-cons (λ e. on e []) d days, none_yet days)

  each_has_place : (days : List ℕ) (xs : List X) → Every (λ x. 1 ≤ places days x) xs → length xs ≤ by_days days xs
  each_has_place days [] every = omega arith
  each_has_place days (x ∷ xs) every = omega (arith, one_more days x xs, each_has_place days xs every.1, every.0)

  no_place : (p : ℕ → Bool) (d : ℕ) (xs : List X) → p d ≡ false → Every (λ x. p (day x) ≡ true) xs → on d xs ≡ 0
  no_place p d [] h every = refl
  no_place p d (x ∷ xs) h every =
      let other : (day x == d) ≡ false = by_test (day x == d) refl in
      let first : on d (x ∷ xs) ≡ 0 + on d xs = sum_by-cons (λ y. cond (day y == d) 1 0) x xs ∙ rw other refl in
      omega (arith, first, no_place p d xs h every.1)
    where
      by_test : (b : Bool) → (day x == d) ≡ b → b ≡ false
      by_test false e = refl
      by_test true e =
          let same : day x ≡ d = grind (arith, nat_tests) in
          let h2 : p d ≡ true = rw same at every.0 in
          cc

  on_few : (p : ℕ → Bool) (d : ℕ) (xs : List X) → on d xs ≤ 1 → Every (λ x. p (day x) ≡ true) xs → on d xs ≤ cond (p d) 1 0
  on_few p d xs few every = by_test (p d) refl
    where
      by_test : (b : Bool) → p d ≡ b → on d xs ≤ cond b 1 0
      by_test true e = few
      by_test false e = let none = no_place p d xs e every in omega (arith, none)

  pub in_span : (a n d : ℕ) → a ≤ d → d < a + n → 1 ≤ count_by (λ e. d == e) (range_with_len a n)
  in_span a zero d low high = absurd (omega arith)
  in_span a (suc n) d low high = by_test (d == a) refl (λ apart. in_span (a + 1) n d apart (omega arith))
    where
      by_test : (b : Bool) → (d == a) ≡ b → (a + 1 ≤ d → 1 ≤ count_by (λ e. d == e) (range_with_len (a + 1) n)) → 1 ≤ count_by (λ e. d == e) (range_with_len a (suc n))
      by_test true e later =
          let first : count_by (λ e. d == e) (range_with_len a (suc n)) ≡ 1 + count_by (λ e. d == e) (range_with_len (a + 1) n) =
          sum_by-cons (λ e. cond (d == e) 1 0) a (range_with_len (a + 1) n) ∙ rw e refl
          in
          omega (arith, first)
      by_test false e later =
          let apart : a + 1 ≤ d = grind (arith, nat_tests) in
          let rest = later apart in
          omega (arith, rest, sum_by-cons (λ e. cond (d == e) 1 0) a (range_with_len (a + 1) n))

  every-places : (a n : ℕ) (xs : List X) → Every (λ x. (a ≤ day x) × (day x < a + n)) xs → Every (λ x. 1 ≤ places (range_with_len a n) x) xs
  every-places a n [] every = tt
  every-places a n (x ∷ xs) every = (in_span a n (day x) every.0.0 every.0.1, every-places a n xs every.1)

  -- things on different days of a span, each on a day that passes the test, are no more than such days
  pub fit : (p : ℕ → Bool) (a n : ℕ) (xs : List X) → Every (λ x. (a ≤ day x) × (day x < a + n)) xs → Every (λ x. p (day x) ≡ true) xs → ((d : ℕ) → on d xs ≤ 1)
      → length xs ≤ count_by p (range_with_len a n)
  fit p a n xs within passes once =
      let all = each_has_place (range_with_len a n) xs (every-places a n xs within) in
      let few : by_days (range_with_len a n) xs ≤ count_by p (range_with_len a n) =
      sum_by-le-sum_by (λ d. on d xs) (λ d. cond (p d) 1 0) (range_with_len a n) (λ d. on_few p d xs (once d) passes)
      in
      omega (arith, all, few)
