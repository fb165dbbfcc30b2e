-- What a sheet lends as JSON data.
use Rattle.std.specs.Prelude.{ℕ, Bool, true, ◌&&◌, List, [], ◌∷◌, map}
use Rattle.std.specs.List.{list_all}
use Rattle.std.specs.Borrow.{Bor}
use Rattle.serde_json.specs.Data.{Data, string, Members, no_members, member}
use Rattle.aq_rules.specs.Shown.WellFormed.{is_cell, is_word}
use Rattle.aq_sheets.specs.JsonView.{are_cells, data_of, list_of, row_of}
use Rattle.aq_sheets.specs.declared.json_text.Part.{Part}
use Rattle.aq_sheets.specs.declared.json_text.Part.TheVariants.{Cell, Names, Rows}

abbrev pub part_data : Part → Data
part_data (Cell cell) = data_of cell.now
part_data (Names names) = list_of (map string names.now)
part_data (Rows rows) = list_of (map row_of rows.now)

abbrev pub parts_data : List (Bor (List ℕ) × Part) → Members
parts_data [] = no_members
parts_data (entry ∷ entries) = member entry.0.now (part_data entry.1) (parts_data entries)

-- what a well-formed sheet has at its names
abbrev pub is_part : Part → Bool
is_part (Cell cell) = is_cell cell.now
is_part (Names names) = list_all is_word names.now
is_part (Rows rows) = are_cells rows.now

abbrev pub are_parts : List (Bor (List ℕ) × Part) → Bool
are_parts [] = true
are_parts (entry ∷ entries) = is_word entry.0.now && is_part entry.1 && are_parts entries
