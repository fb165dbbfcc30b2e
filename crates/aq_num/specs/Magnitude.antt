-- A decimal text without its sign: its magnitude in units of 10 ^ -places, held at one past the largest that is read.
use Rattle.std.specs.Prelude.{ℕ, ◌*◌, ◌/◌, ◌^◌, Bool, ◌&&◌, nat_lt, min, if◌then◌else◌, List, length, ◌++◌, Option, Some, None}
use Rattle.std.specs.List.{before_first, after_first}
use Rattle.std.specs.Str.Parse.{digits_value}
use Rattle.aq_base.specs.Decimal.{is_point, are_digits}

abbrev pub is_magnitude : List ℕ → Bool
is_magnitude digits =
    are_digits (before_first is_point digits) && are_digits (after_first is_point digits)
    && nat_lt 0 (length (before_first is_point digits ++ after_first is_point digits))

abbrev pub magnitude_of : List ℕ → ℕ → ℕ
magnitude_of digits places =
    digits_value 10 (before_first is_point digits ++ after_first is_point digits) * 10 ^ places
    / 10 ^ length (after_first is_point digits)

abbrev pub magnitude_in : List ℕ → ℕ → Option ℕ
magnitude_in digits places =
    if is_magnitude digits then Some (min (magnitude_of digits places) 1000000000) else None
