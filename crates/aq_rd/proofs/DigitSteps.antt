-- A number that is read digit by digit.
use Rattle.std.proofs.Common.{◌≡◌, ℕ, ◌+◌, ◌-◌, ◌*◌, ◌^◌, ◌<◌, ◌≤◌, ◌&&◌, ◌∙◌, true, false, cond, if◌then◌else◌, nat_lt, Some, None, List, length, take, get_or, refl, sym, ap, arith}
use Rattle.std.proofs.lemmas.Bool.{and_right, and_from}
use Rattle.std.proofs.lemmas.Bool.Decides.{nat_tests}
use Rattle.std.proofs.lemmas.Grind.{pow_more}
use Rattle.std.proofs.lemmas.Int.Digits.{digits_value_more}
use Rattle.std.proofs.lemmas.Str.Parse.{digits_value-take-le}
use Rattle.std.proofs.Math.Nat.{pow-le-pow_right}
use Rattle.std.specs.Char.{digit_value}
use Rattle.std.specs.Str.Parse.{digits_value}
use Rattle.aq_base.specs.Decimal.{are_digits}

pub digit_value-digit : (b : ℕ) → 48 ≤ b → b ≤ 57 → digit_value b ≡ b - 48
digit_value-digit b low high = grind (arith, nat_tests)

-- one digit more of fewer than eight still fits
pub next_fits : (n i k : ℕ) → n < 10 ^ i → i < k → k ≤ 8 → 10 * n + 10 ≤ 10 ^ 8
next_fits n i k small more few =
    let up : 10 ^ (i + 1) ≤ 10 ^ 8 = pow-le-pow_right {n = 10} (omega arith) {i = i + 1} {j = 8} (omega arith) in
    omega (arith, up, pow_more 10 i)

pub next_value : (text : List ℕ) (n i d : ℕ) → i < length text → n ≡ digits_value 10 (take i text) → 48 ≤ get_or text i 0 → get_or text i 0 ≤ 57 → d ≡ get_or text i 0 - 48 → 10 * n + d ≡ digits_value 10 (take (i + 1) text)
next_value text n i d within so_far low high is =
    let value : digit_value (get_or text i 0) ≡ get_or text i 0 - 48 = digit_value-digit (get_or text i 0) low high in
    rw (digits_value_more 10 text i within) (omega (arith, so_far, value, is))

pub next_below : (n i d : ℕ) → n < 10 ^ i → d ≤ 9 → 10 * n + d < 10 ^ (i + 1)
next_below n i d small digit = omega (arith, pow_more 10 i)

-- what is read so far of a number is no more than all of it
pub value_grows : (text : List ℕ) (n i : ℕ) → i < length text → n ≡ digits_value 10 (take i text) → n * 10 + digit_value (get_or text i 0) ≤ digits_value 10 text
value_grows text n i within so_far =
    omega (arith, so_far, digits_value_more 10 text i within, digits_value-take-le 10 text (i + 1) (omega arith))

-- a number of more than 64 bits is none, and nor is a text with another byte
pub too_large : (text : List ℕ) → 2 ^ 64 ≤ digits_value 10 text → None ≡ (if are_digits text && nat_lt (digits_value 10 text) (2 ^ 64) then Some (digits_value 10 text) else None)
too_large text h =
    let no : nat_lt (digits_value 10 text) (2 ^ 64) ≡ false = grind (arith, nat_tests) in
    sym (ap (λ b. cond (are_digits text && b) (Some (digits_value 10 text)) None) no ∙ ap (λ b. cond b (Some (digits_value 10 text)) None) (and_right (are_digits text) false refl))

pub whole_number : (text : List ℕ) (n : ℕ) → n ≡ digits_value 10 text → n < 2 ^ 64 → are_digits text ≡ true → Some n ≡ (if are_digits text && nat_lt (digits_value 10 text) (2 ^ 64) then Some (digits_value 10 text) else None)
whole_number text n is small digits =
    let yes : nat_lt (digits_value 10 text) (2 ^ 64) ≡ true = grind (arith, nat_tests) in
    ap Some is ∙ sym (ap (λ b. cond b (Some (digits_value 10 text)) None) (and_from (are_digits text) (nat_lt (digits_value 10 text) (2 ^ 64)) digits yes))

pub next_number : (text : List ℕ) (n i tens d : ℕ) → i < length text → n ≡ digits_value 10 (take i text) → 48 ≤ get_or text i 0 → get_or text i 0 ≤ 57 → d ≡ get_or text i 0 - 48 → tens ≡ n * 10 → tens + d ≡ digits_value 10 (take (i + 1) text)
next_number text n i tens d within so_far low high is ten =
    let value : digit_value (get_or text i 0) ≡ get_or text i 0 - 48 = digit_value-digit (get_or text i 0) low high in
    rw (digits_value_more 10 text i within) (omega (arith, so_far, value, is, ten))
