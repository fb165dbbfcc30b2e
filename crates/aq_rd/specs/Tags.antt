-- The code's tags are those of the definition.
use Rattle.std.specs.Prelude.{Bool, true, false, Option, Some, None, List, ℕ, if◌then◌else◌}
use Rattle.aq_base.specs.declared.rule.Rule.{Rule}
use Rattle.aq_base.specs.declared.rule.Rule.TheVariants.{BadBytes, BadTag}
use Rattle.aq_rules.specs.Lines.Spellings as spellings
use Rattle.aq_rules.specs.Lines.Reading.{is_plain}
use Rattle.aq_rules.specs.Lines.Reading as reading
use Rattle.aq_rd.specs.declared.tag.Tag.{Tag}
use Rattle.aq_rd.specs.declared.tag.Tag.TheVariants.{Rd, Xm, Xp, Xs, Xo, Xu, Xe, Xc, Xa, Xb}

abbrev pub tag_value : Tag → spellings.Tag
tag_value Rd = spellings.Rd
tag_value Xm = spellings.Xm
tag_value Xp = spellings.Xp
tag_value Xs = spellings.Xs
tag_value Xo = spellings.Xo
tag_value Xu = spellings.Xu
tag_value Xe = spellings.Xe
tag_value Xc = spellings.Xc
tag_value Xa = spellings.Xa
tag_value Xb = spellings.Xb

abbrev pub is_office : Option spellings.Tag → Bool
is_office None = false
is_office (Some spellings.Rd) = false
is_office (Some tag) = true

-- a line of plain bytes whose first field is a tag of the agency's office
abbrev pub has_office_tag : List ℕ → Bool
has_office_tag line = if is_plain line then is_office (reading.tag_of line) else false

-- the rule that a line breaks by its bytes, or else by its first field
abbrev pub tag_rule : List ℕ → Rule
tag_rule line = if is_plain line then BadTag else BadBytes
