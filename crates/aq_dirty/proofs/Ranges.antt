-- Tests of numbers that follow one another.
use Rattle.std.proofs.Common.{◌≡◌, ℕ, ◌+◌, ◌-◌, ◌≤◌, ◌<◌, Bool, true, false, ◌&&◌, ◌||◌, List, [], ◌∷◌, refl, ap, ◌∙◌, subst, arith, suc, zero}
use Rattle.std.specs.Prelude.{◌==◌, nat_le, nat_lt, map, flat_map}
use Rattle.std.specs.List.{list_any, range_with_len}
use Rattle.std.proofs.lemmas.Bool.Decides.{nat_tests}
use Rattle.std.proofs.lemmas.List.Folds.{list_any-append}

-- ---- tests of lists

pub any-flat_map : {X Y : Type 0} (test : Y → Bool) (f : X → List Y) (xs : List X) → list_any test (flat_map f xs) ≡ list_any (λ x. list_any test (f x)) xs
any-flat_map test f [] = refl
any-flat_map test f (x ∷ xs) = list_any-append test (f x) (flat_map f xs) ∙ ap (λ b. list_any test (f x) || b) (any-flat_map test f xs)

pub any-map : {X Y : Type 0} (test : Y → Bool) (f : X → Y) (xs : List X) → list_any test (map f xs) ≡ list_any (λ x. test (f x)) xs
any-map test f [] = refl
any-map test f (x ∷ xs) = ap (λ b. test (f x) || b) (any-map test f xs)

pub any-false : {X : Type 0} (xs : List X) → list_any (λ (x : X). false) xs ≡ false
any-false [] = refl
any-false (x ∷ xs) = any-false xs

and_or : (a b c : Bool) → ((a && c) || (b && c)) ≡ ((a || b) && c)
and_or true b true = refl
and_or true true false = refl
and_or true false false = refl
and_or false b c = refl

and_false : (b : Bool) → false ≡ (false && b)
and_false b = refl

pub any-and : {X : Type 0} (test : X → Bool) (b : Bool) (xs : List X) → list_any (λ x. test x && b) xs ≡ (list_any test xs && b)
any-and test b [] = refl
any-and test b (x ∷ xs) = ap (λ c. (test x && b) || c) (any-and test b xs) ∙ and_or (test x) (list_any test xs) b

-- ---- the numbers themselves

no_number : (n a : ℕ) → false ≡ (nat_le a n && nat_lt n (a + 0))
no_number n a = grind (arith, nat_tests)

first_number : (n a k : ℕ) → ((n == a) || (nat_le (a + 1) n && nat_lt n (a + 1 + k))) ≡ (nat_le a n && nat_lt n (a + suc k))
first_number n a k = grind (arith, nat_tests)

pub any-number : (n a k : ℕ) → list_any (λ x. n == x) (range_with_len a k) ≡ (nat_le a n && nat_lt n (a + k))
any-number n a zero = no_number n a
any-number n a (suc k) = ap (λ b. (n == a) || b) (any-number n (a + 1) k) ∙ first_number n a k

to_last : (n a k : ℕ) → (nat_le a n && nat_lt n (a + suc k)) ≡ (nat_le a n && nat_le n (a + k))
to_last n a k = grind (arith, nat_tests)

pub any-from_to : (n a k : ℕ) → list_any (λ x. n == x) (range_with_len a (suc k)) ≡ (nat_le a n && nat_le n (a + k))
any-from_to n a k = any-number n a (suc k) ∙ to_last n a k

-- ---- eight numbers up to each

eight : (n h : ℕ) → (nat_le (h - 7) n && nat_lt n (h - 7 + (h + 1 - (h - 7)))) ≡ (nat_le (h - 7) n && nat_le n h)
eight n h = grind (arith, nat_tests)

pub any-eight : (n h : ℕ) → list_any (λ x. n == x) (range_with_len (h - 7) (h + 1 - (h - 7))) ≡ (nat_le (h - 7) n && nat_le n h)
any-eight n h = any-number n (h - 7) (h + 1 - (h - 7)) ∙ eight n h

one_eight : (n a : ℕ) → ((nat_le (a - 7) n && nat_le n a) || false) ≡ (nat_le (a - 7) n && nat_le n (a + 0))
one_eight n a = grind (arith, nat_tests)

more_eights : (n a k : ℕ) → ((nat_le (a - 7) n && nat_le n a) || (nat_le (a + 1 - 7) n && nat_le n (a + 1 + k))) ≡ (nat_le (a - 7) n && nat_le n (a + suc k))
more_eights n a k = grind (arith, nat_tests)

pub any-eights : (n a k : ℕ) → list_any (λ h. nat_le (h - 7) n && nat_le n h) (range_with_len a (suc k)) ≡ (nat_le (a - 7) n && nat_le n (a + k))
any-eights n a zero = one_eight n a
any-eights n a (suc k) = ap (λ b. (nat_le (a - 7) n && nat_le n a) || b) (any-eights n (a + 1) k) ∙ more_eights n a k

-- ---- a number of each, which rises by one at most, and not at all before the seventh

abbrev pub Climbs : (ℕ → ℕ) → ℕ → ℕ → Type 0
Climbs g a k = (h : ℕ) → a ≤ h → h < a + k → (g h ≤ g (h + 1)) × (g (h + 1) ≤ g h + 1) × (h < 7 → g (h + 1) ≡ g h)

climbs_on : (g : ℕ → ℕ) (a k : ℕ) → Climbs g a (suc k) → Climbs g (a + 1) k
climbs_on g a k steps = λ h low high. steps h (omega arith) (omega arith)

move_on : (a k : ℕ) → a + 1 + k ≡ a + suc k
move_on a k = omega arith

pub rising : (g : ℕ → ℕ) (a k : ℕ) → Climbs g a k → g a ≤ g (a + k)
rising g a zero steps = let e : a ≡ a + 0 = omega arith in subst (λ m. g a ≤ g m) e (omega arith)
rising g a (suc k) steps =
    let first : g a ≤ g (a + 1) = (steps a (omega arith) (omega arith)).0 in
    let rest : g (a + 1) ≤ g (a + 1 + k) = rising g (a + 1) k (climbs_on g a k steps) in
    let whole : g a ≤ g (a + 1 + k) = omega (arith, first, rest) in
    subst (λ m. g a ≤ g m) (move_on a k) whole

one_step : (n x a : ℕ) → ((nat_le 7 a && (n == x)) || false) ≡ (nat_le 7 a && (nat_le x n && nat_le n x))
one_step n x a = grind (arith, nat_tests)

more_steps : (n x y z h m : ℕ) → x ≤ y → y ≤ x + 1 → (h < 7 → y ≡ x) → h < m → y ≤ z
    → ((nat_le 7 h && (n == x)) || (nat_le 7 m && (nat_le y n && nat_le n z))) ≡ (nat_le 7 m && (nat_le x n && nat_le n z))
more_steps n x y z h m low high flat on more = grind (arith, nat_tests)

pub any-climb : (g : ℕ → ℕ) (n a k : ℕ) → Climbs g a k
    → list_any (λ h. nat_le 7 h && (n == g h)) (range_with_len a (suc k)) ≡ (nat_le 7 (a + k) && (nat_le (g a) n && nat_le n (g (a + k))))
any-climb g n a zero steps =
    let e : a ≡ a + 0 = omega arith in
    one_step n (g a) a ∙ ap (λ m. nat_le 7 m && (nat_le (g a) n && nat_le n (g m))) e
any-climb g n a (suc k) steps =
    let first = steps a (omega arith) (omega arith) in
    ap (λ b. (nat_le 7 a && (n == g a)) || b) (any-climb g n (a + 1) k (climbs_on g a k steps))
    ∙ more_steps n (g a) (g (a + 1)) (g (a + 1 + k)) a (a + 1 + k) first.0 first.1 first.2 (omega arith) (rising g (a + 1) k (climbs_on g a k steps))
    ∙ ap (λ m. nat_le 7 m && (nat_le (g a) n && nat_le n (g m))) (move_on a k)
