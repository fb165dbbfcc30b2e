-- What makes a sheet well formed (own). The laws of `well_formed` say of which sheets it is proved.
use Rattle.std.specs.Prelude.{ℕ, ◌^◌, Bool, true, not, ◌&&◌, ◌||◌, ◌==◌, nat_lt, nat_le, IsTrue, List, [], ◌∷◌, ◌++◌, length, map, codes, bytes_eq, Option, ℤ, pos, neg_ℤ, int_le, int_lt}
use Rattle.std.specs.List.{list_all, list_any}
use Rattle.std.specs.Option.{option_map_or}
use Rattle.std.specs.Char.{is_ascii_alphanumeric}
use Rattle.aq_rules.specs.Shown.Sheet.{SheetCell, Head, Sheet}
use Rattle.aq_rules.specs.Shown.Sheet.SheetCell.{Int, Fixed, Text, Missing}

-- a letter, a digit, `-`, `.`, `:` or `_`: none of them ends a word of the text, or is escaped in JSON
abbrev pub is_word_byte : ℕ → Bool
is_word_byte byte = is_ascii_alphanumeric byte || (byte == 45) || (byte == 46) || (byte == 58) || (byte == 95)

abbrev pub is_word : List ℕ → Bool
is_word text = nat_lt 0 (length text) && list_all is_word_byte text

-- a whole number of 64 bits with its sign
abbrev pub is_whole : ℤ → Bool
is_whole value = int_le (neg_ℤ (pos (2 ^ 63))) value && int_lt value (pos (2 ^ 63))

-- a value, if there is one, is such a number
abbrev pub is_whole_if : Option ℤ → Bool
is_whole_if value = option_map_or is_whole value true

abbrev pub is_cell : SheetCell → Bool
is_cell (Int value) = is_whole value
is_cell (Fixed value places) = is_whole value && nat_le places 6
is_cell (Text text) = is_word text
is_cell Missing = true

abbrev pub is_head : Head → Bool
is_head head = is_word head.name && is_cell head.cell

-- one cell for each column
abbrev pub is_row : List (List ℕ) → List SheetCell → Bool
is_row columns row = (length row == length columns) && list_all is_cell row

-- no two of the names are the same
abbrev pub all_differ : List (List ℕ) → Bool
all_differ [] = true
all_differ (name ∷ names) = not (list_any (bytes_eq name) names) && all_differ names

-- the names in JSON: those of the heads, and `columns` and `rows` for the table
abbrev pub names_in : List Head → List (List ℕ)
names_in heads = map (λ (head : Head). head.name) heads ++ codes "columns" ∷ codes "rows" ∷ []

pub record IsWellFormed (sheet : Sheet) : Type 0 where
  pub heads : IsTrue (list_all is_head sheet.heads)
  pub names_differ : IsTrue (all_differ (names_in sheet.heads))
  pub columns : IsTrue (list_all is_word sheet.columns)
  pub rows : IsTrue (list_all (is_row sheet.columns) sheet.rows)
