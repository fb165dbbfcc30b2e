-- What a text holds: a decimal number in units of 10 ^ -places, or the reason why none is read.
use Rattle.std.specs.Prelude.{ℕ, nat_lt, if◌then◌else◌, List, ℤ, Result, Ok, Err}
use Rattle.aq_base.specs.Decimal.{is_decimal, cut_magnitude, cut}
use Rattle.aq_num.specs.declared.decimal.NumberFault.{NumberFault}
use Rattle.aq_num.specs.declared.decimal.NumberFault.TheVariants.{Spelling, TooLarge}

-- the number of a decimal text, its fraction dropped toward zero, unless its magnitude is above the largest (own)
abbrev pub decimal_in : List ℕ → ℕ → Result ℤ NumberFault
decimal_in text places =
    if is_decimal text
    then (if nat_lt 999999999 (cut_magnitude text places) then Err TooLarge else Ok (cut text places))
    else Err Spelling
