-- A sheet as JSON: one object, its members in byte order of their names, without blanks (RFC 8259; the choice of members is (own)).
use Rattle.std.specs.Prelude.{ℕ, List, [], ◌∷◌, ◌++◌, map, fold, codes}
use Rattle.std.specs.List.{join_with_byte}
use Rattle.std.specs.Fmt.{signed_decimal}
use Rattle.aq_base.specs.Decimal.{fixed}
use Rattle.aq_rules.specs.Office.Office.{with_row}
use Rattle.aq_rules.specs.Shown.Sheet.{SheetCell, Head, Sheet}
use Rattle.aq_rules.specs.Shown.Sheet.SheetCell.{Int, Fixed, Text, Missing}

-- names and texts are letters, digits, `-`, `:`, `_` and `.`, so nothing is escaped
abbrev pub json_string : List ℕ → List ℕ
json_string text = 34 ∷ text ++ 34 ∷ []

abbrev pub json_list : List (List ℕ) → List ℕ
json_list items = codes "[" ++ join_with_byte 44 items ++ codes "]"

-- a whole number is a number; one with places, and a text, are strings; a missing value is null
abbrev pub json_cell : SheetCell → List ℕ
json_cell (Int value) = signed_decimal value
json_cell (Fixed value places) = json_string (fixed value places)
json_cell (Text text) = json_string text
json_cell Missing = codes "null"

pub record Member : Type 0 where
  pub name : List ℕ
  pub value : List ℕ

abbrev pub json_member : Member → List ℕ
json_member member = json_string member.name ++ codes ":" ++ member.value

-- members in byte order of their names
abbrev pub in_order : List Member → List Member
in_order members = fold (λ done member. with_row (λ (m : Member). m.name) member done) [] members

abbrev pub head_member : Head → Member
head_member head = record { name = head.name; value = json_cell head.cell }

-- if there are columns, their names and the rows
abbrev pub table_members : List (List ℕ) → List (List SheetCell) → List Member
table_members [] rows = []
table_members (column ∷ columns) rows =
    record { name = codes "columns"; value = json_list (map json_string (column ∷ columns)) }
    ∷ record { name = codes "rows"; value = json_list (map (λ row. json_list (map json_cell row)) rows) }
    ∷ []

abbrev pub members_of : Sheet → List Member
members_of sheet = in_order (map head_member sheet.heads ++ table_members sheet.columns sheet.rows)

unfoldable pub json_of : Sheet → List ℕ
json_of sheet = codes "{" ++ join_with_byte 44 (map json_member (members_of sheet)) ++ codes "}"
