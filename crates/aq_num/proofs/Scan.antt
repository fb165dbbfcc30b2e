-- Reading the digits of a decimal text from the left, and that this gives its magnitude.
use Rattle.std.proofs.Common.{◌≡◌, ℕ, zero, suc, ◌+◌, ◌-◌, ◌*◌, ◌/◌, ◌^◌, ◌<◌, ◌≤◌, min, Bool, true, false, not, ◌&&◌, ◌||◌, cond, nat_lt, nat_eq, List, [], ◌∷◌, ◌++◌, length, Option, Some, None, refl, sym, ap, ◌∙◌, inl, inr, mul_assoc, lit<, arith, rules, tests}
use Rattle.std.specs.List.{before_first, after_first, position_or_len}
use Rattle.std.specs.Char.{is_ascii_digit, digit_value}
use Rattle.std.specs.Str.Parse.{digits_value_after}
use Rattle.std.proofs.lemmas.Bool.{false≢true, cases_lt, cases_Bool, and_parts, lt-ltb}
use Rattle.std.proofs.Math.Bool.{and-false, and-true, or-true}
use Rattle.std.proofs.lemmas.Str.{digit_value_digit}
use Rattle.std.specs.Int.{IsInRange}
use Rattle.std.proofs.Math.Nat.{le-mul_of_pos_right, one-le-pow, pow-suc, mul-one, div-div-eq-div-mul, mul-div-mul_right}
use Rattle.aq_base.specs.Decimal.{is_point, are_digits}
use Rattle.aq_num.specs.Magnitude.{is_magnitude, magnitude_in}

-- a magnitude, held at one past the largest
abbrev pub held : ℕ → ℕ
held n = min n 1000000000

-- what is read from the magnitude so far, the places that are missing, whether the point and whether a digit was read, and the bytes that are left
abbrev pub scan : ℕ → ℕ → Bool → Bool → List ℕ → Option ℕ
scan m missing behind digit [] = cond digit (Some (held (m * 10 ^ missing))) None
scan m missing behind digit (b ∷ bs) =
    cond
    (nat_eq b 46 && not behind)
    (scan m missing true digit bs)
    (cond
    (is_ascii_digit b)
    (cond
    behind
    (cond
    (nat_lt 0 missing)
    (scan (held (m * 10 + (b - 48))) (missing - 1) behind true bs)
    (scan m missing behind true bs))
    (scan (held (m * 10 + (b - 48))) missing behind true bs))
    None)

-- the number with `missing` more digits: those of the text, and then zeros
abbrev pub filled : ℕ → List ℕ → ℕ → ℕ
filled n [] missing = n * 10 ^ missing
filled n (b ∷ bs) zero = n
filled n (b ∷ bs) (suc missing) = filled (n * 10 + (b - 48)) bs missing

held-digit : (n d : ℕ) → held (held n * 10 + d) ≡ held (n * 10 + d)
held-digit n d = omega arith

held-zeros : (n q : ℕ) → 0 < q → held (held n * q) ≡ held (n * q)
held-zeros n q above =
    let own : n ≤ n * q = le-mul_of_pos_right n above in
    let most : 1000000000 ≤ 1000000000 * q = le-mul_of_pos_right 1000000000 above in
    elim (cases_lt n 1000000000) [
      | inl below ↦ let same : min n 1000000000 ≡ n = omega arith in rw same
      | inr past ↦
          let same : min n 1000000000 ≡ 1000000000 = omega arith in
          rw same (omega arith)
    ]

pow-above : (k : ℕ) → 0 < 10 ^ k
pow-above k = one-le-pow k 10 (omega arith)

some-length : (n : ℕ) → nat_lt 0 (suc n) ≡ true
some-length n = lt-ltb 0 (suc n) (omega arith)

digit-range : (b : ℕ) → is_ascii_digit b ≡ true → IsInRange 48 57 b
digit-range b digit = search (rules, tests)

digit_value-is : (b : ℕ) → is_ascii_digit b ≡ true → digit_value b ≡ b - 48
digit_value-is b digit = omega (arith, digit_value_digit b (digit-range b digit))

-- a byte behind the point: it is a digit, or nothing is read
behind-turn : {A : Type 0} (point digit all read more : Bool) (x y z : Option A) → more ≡ true → (digit ≡ true → y ≡ cond all z None) → cond (point && false) x (cond digit y None) ≡ cond (digit && all && (read || more)) z None
behind-turn point true all read true x y z more at = rw (and-false, or-true, and-true) (at refl)
behind-turn point false all read true x y z more at = rw and-false refl
behind-turn point digit all read false x y z more at = absurd (false≢true more)

filled-none : (n : ℕ) (bs : List ℕ) → filled n bs 0 ≡ n
filled-none n [] = omega arith
filled-none n (b ∷ bs) = refl

-- behind the point
pub scan-behind : (n : ℕ) (bs : List ℕ) (missing : ℕ) (read : Bool) → scan (held n) missing true read bs ≡ cond (are_digits bs && (read || nat_lt 0 (length bs))) (Some (held (filled n bs missing))) None
scan-behind n [] missing true = ap Some (held-zeros n (10 ^ missing) (pow-above missing))
scan-behind n [] missing false = refl
scan-behind n (b ∷ bs) zero read =
    behind-turn (nat_eq b 46) (is_ascii_digit b) (are_digits bs) read (nat_lt 0 (suc (length bs))) _ _ _ (some-length (length bs))
    (λ _. scan-behind n bs zero true ∙ ap (λ q. cond q (Some (held (filled n bs 0))) None) (and-true (are_digits bs)) ∙ ap (λ m. cond (are_digits bs) (Some (held m)) None) (filled-none n bs))
scan-behind n (b ∷ bs) (suc missing) read =
    behind-turn (nat_eq b 46) (is_ascii_digit b) (are_digits bs) read (nat_lt 0 (suc (length bs))) _ _ _ (some-length (length bs))
    (λ _. let less : suc missing - 1 ≡ missing = omega arith in rw (some-length missing) (rw (less, held-digit n (b - 48)) (scan-behind (n * 10 + (b - 48)) bs missing true ∙ ap (λ q. cond q (Some (held (filled (n * 10 + (b - 48)) bs missing))) None) (and-true (are_digits bs)))))

-- the digits behind those of n
pub digits_value_after-div : (n : ℕ) (bs : List ℕ) → are_digits bs ≡ true → digits_value_after 10 n bs / 10 ^ length bs ≡ n
digits_value_after-div n [] digits = omega arith
digits_value_after-div n (b ∷ bs) digits =
    let parts = and_parts (is_ascii_digit b) (are_digits bs) digits in
    let value : digit_value b + 48 ≡ b = digit_value_digit b (digit-range b parts.0) in
    let high : b ≤ 57 = (digit-range b parts.0).1 in
    let inner = digits_value_after-div (n * 10 + digit_value b) bs parts.1 in
    rw (pow-suc 10 (length bs), ← div-div-eq-div-mul, inner) (omega arith)

pub filled-is : (n : ℕ) (bs : List ℕ) (missing : ℕ) → are_digits bs ≡ true → digits_value_after 10 n bs * 10 ^ missing / 10 ^ length bs ≡ filled n bs missing
filled-is n [] missing digits = omega arith
filled-is n (b ∷ bs) zero digits = ap (λ m. m / 10 ^ suc (length bs)) (mul-one (digits_value_after 10 n (b ∷ bs))) ∙ digits_value_after-div n (b ∷ bs) digits
filled-is n (b ∷ bs) (suc missing) digits =
    let parts = and_parts (is_ascii_digit b) (are_digits bs) digits in
    let value : ℕ = digits_value_after 10 (n * 10 + digit_value b) bs in
    rw (pow-suc 10 missing, pow-suc 10 (length bs), ← mul_assoc value (10 ^ missing) 10, mul-div-mul_right (value * 10 ^ missing) (10 ^ length bs) (lit< tt), digit_value-is b parts.0)
    (ap (λ v. digits_value_after 10 (n * 10 + v) bs * 10 ^ missing / 10 ^ length bs) (sym (digit_value-is b parts.0)) ∙ filled-is (n * 10 + digit_value b) bs missing parts.1 ∙ ap (λ v. filled (n * 10 + v) bs missing) (digit_value-is b parts.0))

pub digits_value_after-append : (n : ℕ) (xs ys : List ℕ) → digits_value_after 10 n (xs ++ ys) ≡ digits_value_after 10 (digits_value_after 10 n xs) ys
digits_value_after-append n [] ys = refl
digits_value_after-append n (x ∷ xs) ys = digits_value_after-append (n * 10 + digit_value x) xs ys

-- a byte before the point
before-turn : {A : Type 0} (digit whole fraction read more : Bool) (y z : Option A) → more ≡ true → (digit ≡ true → y ≡ cond (whole && fraction) z None) → cond digit y None ≡ cond (digit && whole && fraction && (read || more)) z None
before-turn true whole fraction read true y z more at = rw (or-true, and-true) (at refl)
before-turn false whole fraction read true y z more at = refl
before-turn digit whole fraction read false y z more at = absurd (false≢true more)

before_first-other : (b : ℕ) (bs : List ℕ) → nat_eq b 46 ≡ false → before_first is_point (b ∷ bs) ≡ b ∷ before_first is_point bs
before_first-other b bs other =
    let more : 1 + position_or_len is_point bs ≡ suc (position_or_len is_point bs) = omega arith in
    rw (other, more) refl

after_first-other : (b : ℕ) (bs : List ℕ) → nat_eq b 46 ≡ false → after_first is_point (b ∷ bs) ≡ after_first is_point bs
after_first-other b bs other =
    let more : 1 + position_or_len is_point bs + 1 ≡ suc (position_or_len is_point bs + 1) = omega arith in
    rw (other, more) refl

-- before the point
pub scan-before : (n : ℕ) (bs : List ℕ) (missing : ℕ) (read : Bool) → scan (held n) missing false read bs ≡ cond (are_digits (before_first is_point bs) && are_digits (after_first is_point bs) && (read || nat_lt 0 (length (before_first is_point bs ++ after_first is_point bs)))) (Some (held (filled (digits_value_after 10 n (before_first is_point bs)) (after_first is_point bs) missing))) None
scan-before n [] missing true = ap Some (held-zeros n (10 ^ missing) (pow-above missing))
scan-before n [] missing false = refl
scan-before n (b ∷ bs) missing read =
    elim (cases_Bool (nat_eq b 46)) [
      | inl point ↦ rw point (scan-behind n bs missing read)
      | inr other ↦
          let whole : List ℕ = before_first is_point bs in
          let fraction : List ℕ = after_first is_point bs in
          rw (before_first-other b bs other, after_first-other b bs other, other)
          (before-turn (is_ascii_digit b) (are_digits whole) (are_digits fraction) read (nat_lt 0 (suc (length (whole ++ fraction)))) _ _ (some-length (length (whole ++ fraction)))
          (λ digit. rw (← digit_value-is b digit, held-digit n (digit_value b))
          (scan-before (n * 10 + digit_value b) bs missing true ∙ ap (λ q. cond q (Some (held (filled (digits_value_after 10 (n * 10 + digit_value b) whole) fraction missing))) None) (and-true (are_digits whole && are_digits fraction)))))
    ]

-- equal where the test passes
cond-same : {A : Type 0} (q : Bool) (x y : Option A) → (q ≡ true → x ≡ y) → cond q x None ≡ cond q y None
cond-same true x y at = at refl
cond-same false x y at = refl

pub scan-is : (bs : List ℕ) (places : ℕ) → scan 0 places false false bs ≡ magnitude_in bs places
scan-is bs places =
    let whole : List ℕ = before_first is_point bs in
    let fraction : List ℕ = after_first is_point bs in
    scan-before 0 bs places false
    ∙ cond-same (is_magnitude bs) _ _ (λ is.
    let first = and_parts (are_digits whole && are_digits fraction) (nat_lt 0 (length (whole ++ fraction))) is in
    let digits = and_parts (are_digits whole) (are_digits fraction) first.0 in
    ap (λ m. Some (held m)) (sym (ap (λ v. v * 10 ^ places / 10 ^ length fraction) (digits_value_after-append 0 whole fraction) ∙ filled-is (digits_value_after 10 0 whole) fraction places digits.1)))

-- a byte that is no digit, and no point before which there is none
pub scan-none : (m missing : ℕ) (behind read : Bool) (b : ℕ) (bs : List ℕ) → is_ascii_digit b ≡ false → (nat_eq b 46 && not behind) ≡ false → scan m missing behind read (b ∷ bs) ≡ None
scan-none m missing behind read b bs other point = rw (point, other) refl
