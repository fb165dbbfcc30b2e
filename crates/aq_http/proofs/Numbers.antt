-- Numbers of any size, compared by their digits.
use Rattle.std.proofs.Common.{◌≡◌, ℕ, zero, suc, ◌+◌, ◌*◌, ◌^◌, ◌<◌, ◌≤◌, ◌⊎◌, inl, inr, Bool, true, false, cond, eqb, List, [], ◌∷◌, length, take, refl, sym, ap, ◌∙◌, subst, arith}
use Rattle.std.proofs.lemmas.Bool.{and_parts, eqb-true, eqb-false, cases_order}
use Rattle.std.proofs.lemmas.Bool.Decides.{nat_tests}
use Rattle.std.proofs.lemmas.Grind.{pow_more}
use Rattle.std.proofs.lemmas.Int.Digits.{digits_value_more, digits_value-lt}
use Rattle.std.proofs.lemmas.List.{take_all}
use Rattle.std.proofs.Math.Nat.{pow-le-pow_right}
use Rattle.std.specs.Char.{digit_value, is_ascii_digit}
use Rattle.std.specs.Str.Parse.{digits_value, digits_value_after, AllDigits}
use Rattle.aq_base.specs.Decimal.{are_digits}
use Rattle.aq_http.specs.Length.{IsStated, without_zeros}

digit : (c : ℕ) → is_ascii_digit c ≡ true → (48 ≤ c) × (c ≤ 57)
digit c is = (grind (arith, nat_tests), grind (arith, nat_tests))

value_of_digit : (c : ℕ) → is_ascii_digit c ≡ true → digit_value c + 48 ≡ c
value_of_digit c is = let bounds = digit c is in grind (arith, nat_tests)

pub all_digits : (text : List ℕ) → are_digits text ≡ true → AllDigits 10 text
all_digits [] are = tt
all_digits (c ∷ cs) are =
    let parts = and_parts (is_ascii_digit c) (are_digits cs) are in
    let bounds = digit c parts.0 in
    (omega (arith, value_of_digit c parts.0, bounds.1), all_digits cs parts.1)

-- ---- as many digits

same_behind : (n m : ℕ) (cs ds : List ℕ) → are_digits cs ≡ true → are_digits ds ≡ true → length cs ≡ length ds
    → digits_value_after 10 n cs ≡ digits_value_after 10 m ds → (n ≡ m) × (cs ≡ ds)
same_behind n m [] [] c d len e = (e, refl)
same_behind n m [] (y ∷ ds) c d len e = absurd (omega arith)
same_behind n m (x ∷ cs) [] c d len e = absurd (omega arith)
same_behind n m (x ∷ cs) (y ∷ ds) c d len e =
    let cp = and_parts (is_ascii_digit x) (are_digits cs) c in
    let dp = and_parts (is_ascii_digit y) (are_digits ds) d in
    let later = same_behind (n * 10 + digit_value x) (m * 10 + digit_value y) cs ds cp.1 dp.1 (omega arith) e in
    let xv = value_of_digit x cp.0 in
    let yv = value_of_digit y dp.0 in
    let xb = digit x cp.0 in
    let yb = digit y dp.0 in
    let first : n ≡ m = omega (arith, later.0, xv, yv, xb.0, xb.1, yb.0, yb.1) in
    let same : x ≡ y = omega (arith, later.0, xv, yv, first) in
    (first, λ i. same i ∷ later.1 i)

-- ---- more digits

zeros_shorten : (xs : List ℕ) → length (without_zeros xs) ≤ length xs
zeros_shorten [] = omega arith
zeros_shorten (x ∷ xs) = step (eqb x 48) (zeros_shorten xs)
  where
    step : (t : Bool) → length (without_zeros xs) ≤ length xs → length (cond t (without_zeros xs) (x ∷ xs)) ≤ suc (length xs)
    step true later = omega (arith, later)
    step false later = omega arith

-- the first digit of a number is none of its leading zeros
first_counts : (c : ℕ) (cs : List ℕ) → IsStated (c ∷ cs) → 1 ≤ digit_value c
first_counts c cs stated = by_test (eqb c 48) refl
  where
    by_test : (t : Bool) → eqb c 48 ≡ t → 1 ≤ digit_value c
    by_test true zero_first =
        let gone : without_zeros cs ≡ c ∷ cs = sym (ap (λ t. cond t (without_zeros cs) (c ∷ cs)) zero_first) ∙ stated.no_zero in
        absurd (omega (arith, zeros_shorten cs, ap length gone))
    by_test false other =
        let parts = and_parts (is_ascii_digit c) (are_digits cs) stated.are_digits in
        let above : 48 < c = by_order (cases_order 48 c) in
        omega (arith, value_of_digit c parts.0, above)
      where
        by_order : (48 ≡ c) ⊎ ((48 < c) ⊎ (c < 48)) → 48 < c
        by_order (inl same) = absurd (eqb-false c 48 other (sym same))
        by_order (inr (inl above)) = above
        by_order (inr (inr below)) =
            absurd (omega (arith, below, (digit c (and_parts (is_ascii_digit c) (are_digits cs) stated.are_digits).0).0))

pub at_least : (text : List ℕ) → IsStated text → (i : ℕ) → i < length text → 10 ^ i ≤ digits_value 10 (take (suc i) text)
at_least [] stated i within = absurd (omega arith)
at_least (c ∷ cs) stated zero within = let first = first_counts c cs stated in omega (arith, first)
at_least (c ∷ cs) stated (suc i) within =
    let before = at_least (c ∷ cs) stated i (omega arith) in
    let next : suc i ≡ i + 1 = omega arith in
    let one_more : suc (suc i) ≡ suc i + 1 = omega arith in
    let power = ap (λ k. 10 ^ k) next ∙ pow_more 10 i in
    let more = ap (λ k. digits_value 10 (take k (c ∷ cs))) one_more ∙ digits_value_more 10 (c ∷ cs) (suc i) within in
    omega (arith, before, more, power)

pub whole_at_least : (text : List ℕ) → IsStated text → (i : ℕ) → length text ≡ suc i → 10 ^ i ≤ digits_value 10 text
whole_at_least text stated i len =
    let some = at_least text stated i (omega (arith, len)) in
    let all : take (suc i) text ≡ text = take_all (suc i) text (omega (arith, len)) in
    subst (λ t. 10 ^ i ≤ digits_value 10 t) all some

pub shorter_is_less : (a b : List ℕ) → are_digits a ≡ true → IsStated b → length a < length b → digits_value 10 a < digits_value 10 b
shorter_is_less a [] digits stated less = absurd (omega arith)
shorter_is_less a (c ∷ cs) digits stated less =
    let low = digits_value-lt 10 a (all_digits a digits) in
    let power : 10 ^ length a ≤ 10 ^ length cs = pow-le-pow_right {n = 10} (omega arith) {i = length a} {j = length cs} (omega arith) in
    let high = whole_at_least (c ∷ cs) stated (length cs) refl in
    omega (arith, low, power, high)

-- numbers are the same where their digits are
pub same_digits : (a b : List ℕ) → IsStated a → IsStated b → digits_value 10 a ≡ digits_value 10 b → a ≡ b
same_digits a b x y e = by_length (cases_order (length a) (length b))
  where
    by_length : (length a ≡ length b) ⊎ ((length a < length b) ⊎ (length b < length a)) → a ≡ b
    by_length (inl same) = (same_behind 0 0 a b x.are_digits y.are_digits same e).1
    by_length (inr (inl less)) = absurd (omega (arith, e, shorter_is_less a b x.are_digits y less))
    by_length (inr (inr more)) = absurd (omega (arith, e, shorter_is_less b a y.are_digits x more))

-- ---- leading zeros

pub zeros_count_nothing : (text : List ℕ) → digits_value 10 (without_zeros text) ≡ digits_value 10 text
zeros_count_nothing [] = refl
zeros_count_nothing (c ∷ cs) = by_test (eqb c 48) refl (zeros_count_nothing cs)
  where
    by_test : (t : Bool) → eqb c 48 ≡ t → digits_value 10 (without_zeros cs) ≡ digits_value 10 cs
        → digits_value 10 (cond t (without_zeros cs) (c ∷ cs)) ≡ digits_value 10 (c ∷ cs)
    by_test true is_zero later = later ∙ ap (λ d. digits_value 10 (d ∷ cs)) (sym (eqb-true c 48 is_zero))
    by_test false other later = refl

pub zeros_dropped : (text : List ℕ) → are_digits text ≡ true → IsStated (without_zeros text)
zeros_dropped [] are = record { are_digits = refl; no_zero = refl }
zeros_dropped (c ∷ cs) are =
    by_test (eqb c 48) refl (zeros_dropped cs (and_parts (is_ascii_digit c) (are_digits cs) are).1)
  where
    by_test : (t : Bool) → eqb c 48 ≡ t → IsStated (without_zeros cs) → IsStated (cond t (without_zeros cs) (c ∷ cs))
    by_test true is_zero later = later
    by_test false other later = record { are_digits = are; no_zero = ap (λ t. cond t (without_zeros cs) (c ∷ cs)) other }
