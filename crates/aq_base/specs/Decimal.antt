-- Decimal texts, and division with one rounding.
-- A decimal text is an optional sign and then digits with an optional point and optional further digits, or a point and digits.
use Rattle.std.specs.Prelude.{ℕ, zero, suc, ◌+◌, ◌*◌, ◌/◌, ◌%◌, ◌^◌, Bool, false, ◌&&◌, ◌||◌, ◌==◌, nat_lt, if◌then◌else◌, List, [], ◌∷◌, ◌++◌, length, ℤ, pos, neg_ℤ, ◌+ℤ◌, ◌*ℤ◌, unsigned_abs, int_div, int_lt}
use Rattle.std.specs.List.{list_all, before_first, after_first}
use Rattle.std.specs.Char.{is_ascii_digit}
use Rattle.std.specs.Str.Parse.{digits_value}
use Rattle.std.specs.Fmt.{decimal}
use Rattle.std.specs.Int.{int_div_euclid}

abbrev pub is_point : ℕ → Bool
is_point byte = byte == 46

abbrev pub is_minus : List ℕ → Bool
is_minus [] = false
is_minus (byte ∷ bytes) = byte == 45

-- a text without its sign
abbrev pub unsigned_part : List ℕ → List ℕ
unsigned_part [] = []
unsigned_part (byte ∷ bytes) = if (byte == 43) || (byte == 45) then bytes else byte ∷ bytes

-- the digits before the point and after it
abbrev pub whole_part : List ℕ → List ℕ
whole_part text = before_first is_point (unsigned_part text)

abbrev pub fraction_part : List ℕ → List ℕ
fraction_part text = after_first is_point (unsigned_part text)

abbrev pub are_digits : List ℕ → Bool
are_digits text = list_all is_ascii_digit text

-- the form of a decimal text: digits alone round the point, and one at least
abbrev pub is_decimal : List ℕ → Bool
is_decimal text =
    are_digits (whole_part text) && are_digits (fraction_part text)
    && nat_lt 0 (length (whole_part text ++ fraction_part text))

-- the number of a decimal text is this many units of 10 ^ -(its digits after the point), its sign apart
abbrev pub digits_number : List ℕ → ℕ
digits_number text = digits_value 10 (whole_part text ++ fraction_part text)

-- the number of a decimal text in units of 10 ^ -places, its further digits dropped, its sign apart
abbrev pub cut_magnitude : List ℕ → ℕ → ℕ
cut_magnitude text places = digits_number text * 10 ^ places / 10 ^ length (fraction_part text)

-- the same with its sign, so that the fraction is dropped toward zero (own wording of 40 CFR Part 50, Appendix U, 3(a), and Appendix N, 3.0)
abbrev pub cut : List ℕ → ℕ → ℤ
cut text places =
    if is_minus text then neg_ℤ (pos (cut_magnitude text places)) else pos (cut_magnitude text places)

-- a quotient with the fraction dropped toward zero, for a divisor above 0
abbrev pub truncated : ℤ → ℤ → ℤ
truncated a b = int_div a b

-- a quotient rounded to the nearest whole number, halves upwards: the greatest one not above a / b + 1 / 2, for a divisor above 0
abbrev pub half_up : ℤ → ℤ → ℤ
half_up a b = int_div_euclid ((pos 2 *ℤ a) +ℤ b) (pos 2 *ℤ b)

-- the last `count` digits of a number, leading zeros among them
unfoldable pub last_digits : ℕ → ℕ → List ℕ
last_digits zero n = []
last_digits (suc count) n = last_digits count (n / 10) ++ (48 + n % 10) ∷ []

-- the text of v / 10 ^ places: a minus if v is negative, the whole part without leading zeros, and after a point exactly `places` digits
abbrev pub fixed : ℤ → ℕ → List ℕ
fixed v places =
    (if int_lt v (pos 0) then 45 ∷ [] else [])
    ++ decimal (unsigned_abs v / 10 ^ places)
    ++ (if places == 0 then [] else 46 ∷ last_digits places (unsigned_abs v))
