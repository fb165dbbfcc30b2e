-- How many fields the lines of a body have.
use Rattle.std.specs.Prelude.{ℕ, not, ◌&&◌, if◌then◌else◌, List, length, drop}
use Rattle.aq_rules.specs.Lines.Fields.{fields}
use Rattle.aq_rules.specs.Lines.Lines.{NumberedLine}
use Rattle.aq_rules.specs.Lines.Reading.{is_plain}
use Rattle.aq_rd.specs.FieldPlaces.{has_text}
use Rattle.aq_rd.specs.declared.fields.TheConstants.{MOST_FIELDS}

-- none if a byte is not printed, or if a text stands after the fields of every form
abbrev pub field_count : List ℕ → ℕ
field_count line =
    if is_plain line && not (has_text (drop MOST_FIELDS (fields line))) then length (fields line) else 0

abbrev pub field_count_in : NumberedLine → ℕ
field_count_in line = field_count line.text
