-- A sheet and its text: heads, and a table under column names (own).
use Rattle.std.specs.Prelude.{ℕ, List, [], ◌∷◌, ◌++◌, map, codes, flat_map, find, bytes_eq, ℤ, pos, Option, Some, None}
use Rattle.std.specs.List.{join_with_byte}
use Rattle.std.specs.Option.{option_map_or}
use Rattle.std.specs.Fmt.{signed_decimal}
use Rattle.aq_base.specs.Decimal.{fixed}
unfoldable pub use Rattle.aq_base.specs.Text.{site_text, day_text, hour_text}
pub use Rattle.aq_rules.specs.Lines.Canonical.{truth_text}

-- a whole number; v / 10 ^ places; a text; or no value
pub data SheetCell : Type 0 where
  Int : (value : ℤ) → SheetCell
  Fixed : (value : ℤ) (places : ℕ) → SheetCell
  Text : (text : List ℕ) → SheetCell
  Missing : SheetCell

pub record Head : Type 0 where
  pub name : List ℕ
  pub cell : SheetCell

-- each row has one cell for each column
pub record Sheet : Type 0 where
  pub heads : List Head
  pub columns : List (List ℕ)
  pub rows : List (List SheetCell)

abbrev pub cell_text : SheetCell → List ℕ
cell_text (Int value) = signed_decimal value
cell_text (Fixed value places) = fixed value places
cell_text (Text text) = text
cell_text Missing = codes "-"

-- a line of words with single spaces between them, and LF at its end
abbrev pub line_of : List (List ℕ) → List ℕ
line_of words = join_with_byte 32 words ++ codes "\n"

abbrev pub head_text : Head → List ℕ
head_text head = line_of (head.name ∷ cell_text head.cell ∷ [])

abbrev pub row_text : List SheetCell → List ℕ
row_text row = line_of (map cell_text row)

-- the column names and the rows, if there are columns
abbrev pub table_text : List (List ℕ) → List (List SheetCell) → List ℕ
table_text [] rows = []
table_text (column ∷ columns) rows = line_of (column ∷ columns) ++ flat_map row_text rows

unfoldable pub text_of : Sheet → List ℕ
text_of sheet = flat_map head_text sheet.heads ++ table_text sheet.columns sheet.rows

-- ---- cells

abbrev pub count_cell : ℕ → SheetCell
count_cell n = Int (pos n)

-- a value in units of 10 ^ -places
abbrev pub fixed_cell : ℕ → Option ℤ → SheetCell
fixed_cell places None = Missing
fixed_cell places (Some value) = Fixed value places

-- thousandths of a ppm as ppm
abbrev pub ppm_cell : Option ℤ → SheetCell
ppm_cell value = fixed_cell 3 value

-- tenths of a µg/m3 as µg/m3
abbrev pub tenths_cell : Option ℤ → SheetCell
tenths_cell value = fixed_cell 1 value

abbrev pub whole_cell : Option ℤ → SheetCell
whole_cell None = Missing
whole_cell (Some value) = Int value

abbrev pub head_of : List ℕ → SheetCell → Head
head_of name cell = record { name = name; cell = cell }

-- the cell of the head with this name
abbrev pub cell_at : List ℕ → Sheet → SheetCell
cell_at name sheet = option_map_or (λ (head : Head). head.cell) (find (λ (head : Head). bytes_eq head.name name) sheet.heads) Missing
