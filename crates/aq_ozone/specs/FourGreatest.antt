-- The four greatest of values that fall.
use Rattle.std.specs.Prelude.{List, slice_get, ℤ}
use Rattle.aq_ozone.specs.declared.top_four.TopFour.{TopFour}

-- the first four, as far as there are so many
abbrev pub four_of : List ℤ → TopFour
four_of values = record {
  first = slice_get values 0;
  second = slice_get values 1;
  third = slice_get values 2;
  fourth = slice_get values 3;
}
