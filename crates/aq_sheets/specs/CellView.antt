-- The cells of sheets as the book of rules has them.
use Rattle.std.specs.Prelude.{◌≤◌}
use Rattle.aq_rules.specs.Shown.Sheet as sheets
use Rattle.aq_sheets.specs.declared.cell.Content.{Content}
use Rattle.aq_sheets.specs.declared.cell.Content.TheVariants.{Int, Fixed, Text, Missing}

abbrev pub cell_of : Content → sheets.SheetCell
cell_of (Int value) = sheets.SheetCell.Int value
cell_of (Fixed value places) = sheets.SheetCell.Fixed value places
cell_of (Text text) = sheets.SheetCell.Text text
cell_of Missing = sheets.SheetCell.Missing

-- a value is printed with at most six places
abbrev pub HasFewPlaces : Content → Type 0
HasFewPlaces (Int value) = Unit {0}
HasFewPlaces (Fixed value places) = places ≤ 6
HasFewPlaces (Text text) = Unit {0}
HasFewPlaces Missing = Unit {0}
