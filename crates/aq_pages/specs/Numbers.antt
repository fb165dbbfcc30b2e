-- The numbers of a sheet, and the one scale by which they are drawn (own).
use Rattle.std.specs.Prelude.{ℕ, ◌*◌, ◌/◌, max, Bool, false, ◌||◌, if◌then◌else◌, List, [], ◌∷◌, slice_get, Option, Some, None, is_some, unwrap_or, ℤ, pos, int_lt, unsigned_abs, Result, Ok, Err}
use Rattle.aq_num.specs.DecimalIn.{decimal_in}
use Rattle.aq_num.specs.declared.decimal.NumberFault.{NumberFault}
use Rattle.aq_pages.specs.Sheets.{Line}

-- nothing is drawn below 0
abbrev pub from_zero : ℤ → ℕ
from_zero number = if int_lt number (pos 0) then 0 else unsigned_abs number

abbrev pub drawn : Result ℤ NumberFault → Option ℕ
drawn (Ok number) = Some (from_zero number)
drawn (Err fault) = None

-- the number that a word says, in thousandths, if it says one
unfoldable pub number_in : List ℕ → Option ℕ
number_in word = drawn (decimal_in word 3)

-- a word of a line by its place from 0, empty if the line has none
unfoldable pub word_at : ℕ → Line → List ℕ
word_at place line = unwrap_or (slice_get line place) []

abbrev pub number_at : ℕ → Line → Option ℕ
number_at place line = number_in (word_at place line)

-- some line has a number at a place
abbrev pub has_number : ℕ → List Line → Bool
has_number place [] = false
has_number place (line ∷ lines) = is_some (number_at place line) || has_number place lines

-- the greatest of the numbers at a place of some lines, and of one more
unfoldable pub greatest : ℕ → ℕ → List Line → ℕ
greatest place top [] = top
greatest place top (line ∷ lines) = greatest place (max top (unwrap_or (number_at place line) 0)) lines

-- THE SCALE: on a span of a picture that stands for the numbers from 0 to `top`, so far from its start stands a number
unfoldable pub scaled : ℕ → ℕ → ℕ → ℕ
scaled top span number = number * span / top
