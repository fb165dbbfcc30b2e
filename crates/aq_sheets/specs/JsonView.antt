-- Sheets as JSON data.
use Rattle.std.specs.Prelude.{ℕ, Bool, List, [], ◌∷◌, map, codes}
use Rattle.std.specs.List.{list_all}
use Rattle.json.specs.Token.{Token}
use Rattle.json.specs.Tree.{json_tokens}
use Rattle.aq_base.specs.Decimal.{fixed}
use Rattle.aq_rules.specs.Shown.Sheet.{SheetCell, Head}
use Rattle.aq_rules.specs.Shown.Sheet.SheetCell.{Int, Fixed, Text, Missing}
use Rattle.aq_rules.specs.Shown.WellFormed.{is_cell}
use Rattle.serde_json.specs.Data.{Data, null, number, string, array, Members, put}
use Rattle.serde_json.specs.Find.{of_integer}
use Rattle.serde_json.specs.View.{items_of}
use Rattle.serde_json.specs.Written.{outline}

-- the tokens of data, as `json` writes them
abbrev pub tokens_of : Data → List Token
tokens_of d = json_tokens (outline d)

-- rows whose cells are those of a well-formed sheet
abbrev pub are_cells : List (List SheetCell) → Bool
are_cells rows = list_all (λ row. list_all is_cell row) rows

abbrev pub data_of : SheetCell → Data
data_of (Int value) = number (of_integer value)
data_of (Fixed value places) = string (fixed value places)
data_of (Text text) = string text
data_of Missing = null

abbrev pub list_of : List Data → Data
list_of ds = array (items_of ds)

abbrev pub row_of : List SheetCell → Data
row_of row = list_of (map data_of row)

-- members with those of some heads
abbrev pub with_heads : List Head → Members → Members
with_heads [] members = members
with_heads (head ∷ heads) members = with_heads heads (put head.name (data_of head.cell) members)

-- members with those of a table, if there are columns
abbrev pub with_table : List (List ℕ) → List (List SheetCell) → Members → Members
with_table [] rows members = members
with_table (column ∷ columns) rows members =
    put (codes "rows") (list_of (map row_of rows)) (put (codes "columns") (list_of (map string (column ∷ columns))) members)
