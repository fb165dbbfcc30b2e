-- Heads and rows of which a sheet is well formed.
use Rattle.std.specs.Prelude.{ℕ, Bool, ◌&&◌, ◌==◌, List, length}
use Rattle.std.specs.List.{list_all}
use Rattle.aq_rules.specs.Shown.Sheet.{SheetCell, Head}
use Rattle.aq_rules.specs.Shown.WellFormed.{all_differ, is_cell, is_head, names_in}

abbrev pub are_heads : List Head → Bool
are_heads heads = list_all is_head heads && all_differ (names_in heads)

-- so many cells
abbrev pub is_row_of : ℕ → List SheetCell → Bool
is_row_of width cells = (length cells == width) && list_all is_cell cells

abbrev pub are_rows : ℕ → List (List SheetCell) → Bool
are_rows width rows = list_all (is_row_of width) rows
