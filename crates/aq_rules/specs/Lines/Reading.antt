-- Which reading rules a line breaks, whatever the order of testing, and the value that a line spells (the limits of RD fields are those of the AQS raw data transaction format; rules, numbers and office lines are (own)).
use Rattle.std.specs.Prelude.{ℕ, Bool, false, not, ◌&&◌, ◌||◌, ◌==◌, nat_le, nat_lt, if◌then◌else◌, Option, Some, None, is_none, true, ℤ, List, [], ◌∷◌, ◌++◌, length, drop, codes, bytes_eq, find, filter}
use Rattle.std.specs.List.{list_any, list_all}
use Rattle.aq_base.specs.Decimal.{is_decimal}
use Rattle.aq_base.specs.Rule.{rule_number}
use Rattle.aq_base.specs.declared.office.OfficeLine.{OfficeLine}
use Rattle.aq_base.specs.declared.rule.Rule.{Rule}
use Rattle.aq_base.specs.declared.rule.Rule.TheVariants.{BadBytes, BadTag, FieldCount, BadAction, BadSite, ParameterOutOfProfile, BadPoc, BadDuration, BadUnit, BadMethod, BadDate, BadTime, ValueAndNull, NeitherValueNorNull, BadValue, ValueOutOfRange, BadNull, BadQualifier, BadSpan, BadInterval, BadSeason, BadMakeup, BadCode, BadPair}
use Rattle.aq_rules.specs.Lines.Fields.{is_empty, fields, field}
use Rattle.aq_rules.specs.Lines.Forms.{FieldName, State, County, SiteNumber, Parameter, Poc, SampleDuration, Unit, Method, Date, StartTime, SampleValue, NullCode, Qualifiers, Eligible, PrimaryPoc, Interval, Anchor, Year, FirstDay, LastDay, MissedDay, MakeupDay, EventNumber, FirstDate, FirstTime, LastDate, LastTime, EventCode, Agreed, JoinedState, JoinedCounty, JoinedNumber, Row, Key, Content, Optional, Unread, form, acts, key_rows, text_of, site_of, joined_of, pollutant_of, fewest_fields, most_fields, TAG_PLACE, ACTION_PLACE}
use Rattle.aq_rules.specs.Lines.Spellings.{◌>>=◌, Tag, Rd, Xm, Xp, Xs, Xo, Xu, Xe, Xc, Xa, Xb, Action, Insert, Update, Delete, tag_in, action_in, digits_in, poc_in, primary_in, duration_in, unit_in, method_in, date_in, year_in, time_in, value_in, null_in, qualifiers_in, interval_in, truth_in, event_number_in, event_code_in}
use Rattle.aq_rules.specs.Lines.RdForm.{RdValue, qualifier_fields, put_in, delete_in}
use Rattle.aq_rules.specs.Lines.OfficeForms.{hour_in, is_season, is_makeup, is_span, is_pair, office_line_in}

-- ---- the rules of all forms

-- printed ASCII and the space
abbrev pub is_plain_byte : ℕ → Bool
is_plain_byte byte = nat_le 0x20 byte && nat_le byte 0x7E

abbrev pub is_plain : List ℕ → Bool
is_plain line = list_all is_plain_byte line

-- the form of a line
abbrev pub tag_of : List ℕ → Option Tag
tag_of line = tag_in (field TAG_PLACE (fields line))

abbrev pub is_deletion : List (List ℕ) → Bool
is_deletion texts = bytes_eq (field ACTION_PLACE texts) (codes "D")

-- whether the line has too few fields, or a text after those of its form
abbrev pub has_wrong_count : Tag → Bool → List (List ℕ) → Bool
has_wrong_count tag deletes texts =
    nat_lt (length texts) (fewest_fields tag deletes)
    || list_any (λ text. not (is_empty text)) (drop (most_fields tag) texts)

abbrev pub action_for : Tag → List ℕ → Option Action
action_for tag text = do
  action ← action_in text
  if acts tag action then Some action else None

-- ---- the rule of each field

-- whether the field's text spells nothing; a sample value and a null code may be empty
abbrev pub is_misspelled : Tag → FieldName → List (List ℕ) → Bool
is_misspelled tag State texts = is_none (digits_in 2 (text_of tag State texts))
is_misspelled tag County texts = is_none (digits_in 3 (text_of tag County texts))
is_misspelled tag SiteNumber texts = is_none (digits_in 4 (text_of tag SiteNumber texts))
is_misspelled tag Parameter texts = is_none (pollutant_of tag texts)
is_misspelled tag Poc texts = is_none (poc_in (text_of tag Poc texts))
is_misspelled tag SampleDuration texts =
    is_none (pollutant_of tag texts >>= λ pollutant. duration_in pollutant (text_of tag SampleDuration texts))
is_misspelled tag Unit texts =
    is_none (pollutant_of tag texts >>= λ pollutant. unit_in pollutant (text_of tag Unit texts))
is_misspelled tag Method texts = is_none (method_in (text_of tag Method texts))
is_misspelled tag Date texts = is_none (date_in (text_of tag Date texts))
is_misspelled tag StartTime texts = is_none (time_in (text_of tag StartTime texts))
is_misspelled tag SampleValue texts =
    not (is_empty (text_of tag SampleValue texts)) && not (is_decimal (text_of tag SampleValue texts))
is_misspelled tag NullCode texts =
    not (is_empty (text_of tag NullCode texts)) && is_none (null_in (text_of tag NullCode texts))
is_misspelled tag Qualifiers texts = is_none (qualifiers_in (qualifier_fields texts))
is_misspelled tag Eligible texts = is_none (truth_in (text_of tag Eligible texts))
is_misspelled tag PrimaryPoc texts = is_none (primary_in (text_of tag PrimaryPoc texts))
is_misspelled tag Interval texts = is_none (interval_in (text_of tag Interval texts))
is_misspelled tag Anchor texts = is_none (date_in (text_of tag Anchor texts))
is_misspelled tag Year texts = is_none (year_in (text_of tag Year texts))
is_misspelled tag FirstDay texts = is_none (date_in (text_of tag FirstDay texts))
is_misspelled tag LastDay texts = is_none (date_in (text_of tag LastDay texts))
is_misspelled tag MissedDay texts = is_none (date_in (text_of tag MissedDay texts))
is_misspelled tag MakeupDay texts = is_none (date_in (text_of tag MakeupDay texts))
is_misspelled tag EventNumber texts = is_none (event_number_in (text_of tag EventNumber texts))
is_misspelled tag FirstDate texts = is_none (date_in (text_of tag FirstDate texts))
is_misspelled tag FirstTime texts = is_none (time_in (text_of tag FirstTime texts))
is_misspelled tag LastDate texts = is_none (date_in (text_of tag LastDate texts))
is_misspelled tag LastTime texts = is_none (time_in (text_of tag LastTime texts))
is_misspelled tag EventCode texts = is_none (event_code_in (text_of tag EventCode texts))
is_misspelled tag Agreed texts = is_none (truth_in (text_of tag Agreed texts))
is_misspelled tag JoinedState texts = is_none (digits_in 2 (text_of tag JoinedState texts))
is_misspelled tag JoinedCounty texts = is_none (digits_in 3 (text_of tag JoinedCounty texts))
is_misspelled tag JoinedNumber texts = is_none (digits_in 4 (text_of tag JoinedNumber texts))

-- ---- the rules across fields

abbrev pub has_value : List (List ℕ) → Bool
has_value texts = not (is_empty (text_of Rd SampleValue texts))

abbrev pub has_null : List (List ℕ) → Bool
has_null texts = not (is_empty (text_of Rd NullCode texts))

-- the value in the unit and range of the parameter
abbrev pub reported_value : List (List ℕ) → Option ℤ
reported_value texts = do
  pollutant ← pollutant_of Rd texts
  places ← unit_in pollutant (text_of Rd Unit texts)
  value_in pollutant places (text_of Rd SampleValue texts)

abbrev pub is_out_of_range : List (List ℕ) → Bool
is_out_of_range texts = has_value texts && is_decimal (text_of Rd SampleValue texts) && is_none (reported_value texts)

-- whether a test that could be made failed
abbrev pub fails : Option Bool → Bool
fails None = false
fails (Some passed) = not passed

abbrev pub span_test : List (List ℕ) → Option Bool
span_test texts = do
  first ← hour_in (text_of Xe FirstDate texts) (text_of Xe FirstTime texts)
  last ← hour_in (text_of Xe LastDate texts) (text_of Xe LastTime texts)
  Some (is_span first last)

abbrev pub season_test : List (List ℕ) → Option Bool
season_test texts = do
  year ← year_in (text_of Xo Year texts)
  first ← date_in (text_of Xo FirstDay texts)
  last ← date_in (text_of Xo LastDay texts)
  Some (is_season year first last)

abbrev pub makeup_test : List (List ℕ) → Option Bool
makeup_test texts = do
  missed ← date_in (text_of Xu MissedDay texts)
  makeup ← date_in (text_of Xu MakeupDay texts)
  Some (is_makeup missed makeup)

abbrev pub pair_test : List (List ℕ) → Option Bool
pair_test texts = do
  site ← site_of Xb texts
  joined ← joined_of Xb texts
  Some (is_pair site joined)

-- a rule, and whether a line's fields break it
pub record Demand : Type 0 where
  pub rule : Rule
  pub is_broken : List (List ℕ) → Bool

-- what the fields of an insertion or update must be to each other
abbrev pub demands_across : Tag → List Demand
demands_across Rd =
    record { rule = ValueAndNull; is_broken = λ texts. has_value texts && has_null texts }
    ∷ record { rule = NeitherValueNorNull; is_broken = λ texts. not (has_value texts) && not (has_null texts) }
    ∷ record { rule = ValueOutOfRange; is_broken = is_out_of_range }
    ∷ []
demands_across Xm = []
demands_across Xp = []
demands_across Xs = []
demands_across Xo = record { rule = BadSeason; is_broken = λ texts. fails (season_test texts) } ∷ []
demands_across Xu = record { rule = BadMakeup; is_broken = λ texts. fails (makeup_test texts) } ∷ []
demands_across Xe = record { rule = BadSpan; is_broken = λ texts. fails (span_test texts) } ∷ []
demands_across Xc = []
demands_across Xa = []
demands_across Xb = record { rule = BadPair; is_broken = λ texts. fails (pair_test texts) } ∷ []

-- ---- the rules that a line breaks

-- each field that is read must be spelled
abbrev pub demands_of_fields : Tag → List Row → List Demand
demands_of_fields tag [] = []
demands_of_fields tag (Key place name rule ∷ rows) =
    record { rule = rule; is_broken = is_misspelled tag name } ∷ demands_of_fields tag rows
demands_of_fields tag (Content place name rule ∷ rows) =
    record { rule = rule; is_broken = is_misspelled tag name } ∷ demands_of_fields tag rows
demands_of_fields tag (Optional place name rule ∷ rows) =
    record { rule = rule; is_broken = is_misspelled tag name } ∷ demands_of_fields tag rows
demands_of_fields tag (Unread place ∷ rows) = demands_of_fields tag rows

-- what a line must be; of a deletion only the key is read, if the form has deletions
abbrev pub demands_on : Tag → Bool → List Demand
demands_on tag deletes =
    if deletes && acts tag Delete then demands_of_fields tag (key_rows tag)
    else demands_of_fields tag (form tag).rows ++ demands_across tag

abbrev pub is_of_rule : Rule → Demand → Bool
is_of_rule rule demand = rule_number rule == rule_number demand.rule

-- whether a line of the form breaks the rule in its fields
abbrev pub breaks_in : Rule → Tag → Bool → List (List ℕ) → Bool
breaks_in rule tag deletes texts =
    list_any (λ demand. demand.is_broken texts) (filter (is_of_rule rule) (demands_on tag deletes))

-- whether a line of this form and these fields breaks the rule; one of no form breaks none of the others
abbrev pub breaks_parts : Rule → Bool → Option Tag → List (List ℕ) → Bool
breaks_parts BadBytes plain tag texts = not plain
breaks_parts BadTag plain tag texts = is_none tag
breaks_parts rule plain None texts = false
breaks_parts FieldCount plain (Some tag) texts = has_wrong_count tag (is_deletion texts) texts
breaks_parts BadAction plain (Some tag) texts = is_none (action_for tag (field ACTION_PLACE texts))
breaks_parts rule plain (Some tag) texts = breaks_in rule tag (is_deletion texts) texts

-- whether a line breaks the rule
abbrev pub breaks : Rule → List ℕ → Bool
breaks rule line = breaks_parts rule (is_plain line) (tag_of line) (fields line)

-- ---- the rules that a line meets, in rising number

-- the reading rules beside those of all forms
abbrev pub FIELD_RULES : List Rule
FIELD_RULES =
    BadSite ∷ ParameterOutOfProfile ∷ BadPoc ∷ BadDuration ∷ BadUnit ∷ BadMethod ∷ BadDate ∷ BadTime
    ∷ ValueAndNull ∷ NeitherValueNorNull ∷ BadValue ∷ ValueOutOfRange ∷ BadNull ∷ BadQualifier
    ∷ BadSpan ∷ BadInterval ∷ BadSeason ∷ BadMakeup ∷ BadCode ∷ BadPair ∷ []

abbrev pub rules_of : Tag → Bool → List Rule
rules_of tag deletes = filter (λ rule. list_any (is_of_rule rule) (demands_on tag deletes)) FIELD_RULES

abbrev pub rules_for : Option Tag → List (List ℕ) → List Rule
rules_for None texts = []
rules_for (Some tag) texts = rules_of tag (is_deletion texts)

abbrev pub reading_rules : List ℕ → List Rule
reading_rules line = BadBytes ∷ BadTag ∷ FieldCount ∷ BadAction ∷ rules_for (tag_of line) (fields line)

-- the least reading rule that a line breaks
abbrev pub reading_rule : List ℕ → Option Rule
reading_rule line = find (λ rule. breaks rule line) (reading_rules line)

-- ---- the value of a line

pub data LineValue : Type 0 where
  OfRd : (value : RdValue) → LineValue
  OfOffice : (line : OfficeLine) → LineValue

-- RD spells a sample, and each other form an office line
abbrev pub value_for : Tag → Action → List (List ℕ) → Option LineValue
value_for Rd Insert texts = put_in false texts >>= λ value. Some (OfRd value)
value_for Rd Update texts = put_in true texts >>= λ value. Some (OfRd value)
value_for Rd Delete texts = delete_in texts >>= λ value. Some (OfRd value)
value_for tag action texts = office_line_in tag action texts >>= λ line. Some (OfOffice line)

abbrev pub form_value : Tag → List (List ℕ) → Option LineValue
form_value tag texts =
    if has_wrong_count tag (is_deletion texts) texts then None
    else (action_for tag (field ACTION_PLACE texts) >>= λ action. value_for tag action texts)

-- the value that a line spells: of plain bytes, with the fields and an action of its form
abbrev pub line_value : List ℕ → Option LineValue
line_value line =
    if is_plain line then (tag_of line >>= λ tag. form_value tag (fields line)) else None
