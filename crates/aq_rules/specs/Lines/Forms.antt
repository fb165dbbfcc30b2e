-- The forms of lines: of each its actions and its fields (RD is that of the AQS raw data transaction format, the others are the office's (own)).
use Rattle.std.specs.Prelude.{ℕ, ◌-◌, Bool, true, false, ◌==◌, if◌then◌else◌, Option, Some, None, List, [], ◌∷◌, drop, find, filter}
use Rattle.aq_base.specs.Site.{Site}
use Rattle.aq_base.specs.declared.monitor.Pollutant.{Pollutant}
use Rattle.aq_base.specs.declared.rule.Rule.{Rule}
use Rattle.aq_base.specs.declared.rule.Rule.TheVariants.{BadSite, ParameterOutOfProfile, BadPoc, BadDuration, BadUnit, BadMethod, BadDate, BadTime, BadValue, BadNull, BadQualifier, BadInterval, BadCode}
use Rattle.aq_rules.specs.Lines.Fields.{field}
use Rattle.aq_rules.specs.Lines.Spellings.{Tag, Rd, Xm, Xp, Xs, Xo, Xu, Xe, Xc, Xa, Xb, Action, Insert, Update, Delete, site_in, parameter_of}

-- the tag stands in the first field of a line, and the action in the second
abbrev pub TAG_PLACE : ℕ
TAG_PLACE = 1

abbrev pub ACTION_PLACE : ℕ
ACTION_PLACE = 2

-- the names of the fields that are read
pub data FieldName : Type 0 where
  State County SiteNumber Parameter Poc SampleDuration Unit Method Date StartTime SampleValue NullCode Qualifiers : FieldName
  Eligible PrimaryPoc Interval Anchor Year FirstDay LastDay MissedDay MakeupDay : FieldName
  EventNumber FirstDate FirstTime LastDate LastTime EventCode Agreed : FieldName
  JoinedState JoinedCounty JoinedNumber : FieldName

-- a row of a form's table: where a field stands, its name, and the rule that a wrong spelling of it breaks
pub data Row : Type 0 where
  -- a field of the key; of a deletion nothing else is read
  Key : (place : ℕ) (name : FieldName) (rule : Rule) → Row
  -- a field that an insertion or update must have too
  Content : (place : ℕ) (name : FieldName) (rule : Rule) → Row
  -- a field that an insertion or update may have, or end before it
  Optional : (place : ℕ) (name : FieldName) (rule : Rule) → Row
  -- a field that may hold any text
  Unread : (place : ℕ) → Row

-- what a form may do, and its fields after the tag and the action
pub record Form : Type 0 where
  pub inserts : Bool
  pub updates : Bool
  pub deletes : Bool
  pub rows : List Row

abbrev pub form : Tag → Form
-- a sample; the qualifiers take the fields 17 to 26, and those that are not read are the collection frequency, the monitor protocol, the detection limit and the uncertainty
form Rd = record {
  inserts = true;
  updates = true;
  deletes = true;
  rows =
      Key 3 State BadSite
      ∷ Key 4 County BadSite
      ∷ Key 5 SiteNumber BadSite
      ∷ Key 6 Parameter ParameterOutOfProfile
      ∷ Key 7 Poc BadPoc
      ∷ Content 8 SampleDuration BadDuration
      ∷ Content 9 Unit BadUnit
      ∷ Content 10 Method BadMethod
      ∷ Key 11 Date BadDate
      ∷ Key 12 StartTime BadTime
      ∷ Content 13 SampleValue BadValue
      ∷ Optional 14 NullCode BadNull
      ∷ Unread 15
      ∷ Unread 16
      ∷ Optional 17 Qualifiers BadQualifier
      ∷ Unread 27
      ∷ Unread 28
      ∷ [];
}
-- a monitor, which is never removed
form Xm = record {
  inserts = true;
  updates = true;
  deletes = false;
  rows =
      Key 3 State BadSite
      ∷ Key 4 County BadSite
      ∷ Key 5 SiteNumber BadSite
      ∷ Key 6 Parameter ParameterOutOfProfile
      ∷ Key 7 Poc BadPoc
      ∷ Content 8 SampleDuration BadDuration
      ∷ Content 9 Eligible BadCode
      ∷ [];
}
-- the designation of a primary monitor, from a date on
form Xp = record {
  inserts = true;
  updates = false;
  deletes = true;
  rows =
      Key 3 State BadSite
      ∷ Key 4 County BadSite
      ∷ Key 5 SiteNumber BadSite
      ∷ Key 6 Parameter ParameterOutOfProfile
      ∷ Key 7 Date BadDate
      ∷ Content 8 PrimaryPoc BadPoc
      ∷ [];
}
-- a sampling schedule, from a date on
form Xs = record {
  inserts = true;
  updates = false;
  deletes = true;
  rows =
      Key 3 State BadSite
      ∷ Key 4 County BadSite
      ∷ Key 5 SiteNumber BadSite
      ∷ Key 6 Parameter ParameterOutOfProfile
      ∷ Key 7 Date BadDate
      ∷ Content 8 Interval BadInterval
      ∷ Content 9 Anchor BadDate
      ∷ [];
}
-- the ozone season of a year
form Xo = record {
  inserts = true;
  updates = false;
  deletes = true;
  rows =
      Key 3 State BadSite
      ∷ Key 4 County BadSite
      ∷ Key 5 SiteNumber BadSite
      ∷ Key 6 Year BadDate
      ∷ Content 7 FirstDay BadDate
      ∷ Content 8 LastDay BadDate
      ∷ [];
}
-- a make-up sample of PM2.5; the parameter is read with the key
form Xu = record {
  inserts = true;
  updates = false;
  deletes = true;
  rows =
      Key 3 State BadSite
      ∷ Key 4 County BadSite
      ∷ Key 5 SiteNumber BadSite
      ∷ Key 6 Parameter ParameterOutOfProfile
      ∷ Key 7 MissedDay BadDate
      ∷ Content 8 MakeupDay BadDate
      ∷ [];
}
-- an exceptional event
form Xe = record {
  inserts = true;
  updates = false;
  deletes = true;
  rows =
      Key 3 EventNumber BadCode
      ∷ Content 4 State BadSite
      ∷ Content 5 County BadSite
      ∷ Content 6 SiteNumber BadSite
      ∷ Content 7 Parameter ParameterOutOfProfile
      ∷ Content 8 FirstDate BadDate
      ∷ Content 9 FirstTime BadTime
      ∷ Content 10 LastDate BadDate
      ∷ Content 11 LastTime BadTime
      ∷ Content 12 EventCode BadCode
      ∷ [];
}
-- the concurrence of the Administrator with an event, which only an update makes
form Xc = record {
  inserts = false;
  updates = true;
  deletes = false;
  rows = Key 3 EventNumber BadCode ∷ Content 4 Agreed BadCode ∷ [];
}
-- an ozone day that is approved
form Xa = record {
  inserts = true;
  updates = false;
  deletes = true;
  rows = Key 3 State BadSite ∷ Key 4 County BadSite ∷ Key 5 SiteNumber BadSite ∷ Key 6 Date BadDate ∷ [];
}
-- a site that is combined with another one, the joined site, from a date on
form Xb = record {
  inserts = true;
  updates = false;
  deletes = true;
  rows =
      Key 3 State BadSite
      ∷ Key 4 County BadSite
      ∷ Key 5 SiteNumber BadSite
      ∷ Key 6 Parameter ParameterOutOfProfile
      ∷ Content 7 Date BadDate
      ∷ Content 8 JoinedState BadSite
      ∷ Content 9 JoinedCounty BadSite
      ∷ Content 10 JoinedNumber BadSite
      ∷ [];
}

abbrev pub acts : Tag → Action → Bool
acts tag Insert = (form tag).inserts
acts tag Update = (form tag).updates
acts tag Delete = (form tag).deletes

-- ---- a field by its name

-- names are distinguished by numbers
abbrev pub name_number : FieldName → ℕ
name_number State = 1
name_number County = 2
name_number SiteNumber = 3
name_number Parameter = 4
name_number Poc = 5
name_number SampleDuration = 6
name_number Unit = 7
name_number Method = 8
name_number Date = 9
name_number StartTime = 10
name_number SampleValue = 11
name_number NullCode = 12
name_number Qualifiers = 13
name_number Eligible = 14
name_number PrimaryPoc = 15
name_number Interval = 16
name_number Anchor = 17
name_number Year = 18
name_number FirstDay = 19
name_number LastDay = 20
name_number MissedDay = 21
name_number MakeupDay = 22
name_number EventNumber = 23
name_number FirstDate = 24
name_number FirstTime = 25
name_number LastDate = 26
name_number LastTime = 27
name_number EventCode = 28
name_number Agreed = 29
name_number JoinedState = 30
name_number JoinedCounty = 31
name_number JoinedNumber = 32

abbrev pub has_name : FieldName → Row → Bool
has_name name (Key place other rule) = name_number name == name_number other
has_name name (Content place other rule) = name_number name == name_number other
has_name name (Optional place other rule) = name_number name == name_number other
has_name name (Unread place) = false

abbrev pub place_of : Row → ℕ
place_of (Key place name rule) = place
place_of (Content place name rule) = place
place_of (Optional place name rule) = place
place_of (Unread place) = place

abbrev pub row_of : Tag → FieldName → Option Row
row_of tag name = find (has_name name) (form tag).rows

abbrev pub text_at : Option Row → List (List ℕ) → List ℕ
text_at None texts = []
text_at (Some row) texts = field (place_of row) texts

-- the text of a form's field, empty if the form has no such field
abbrev pub text_of : Tag → FieldName → List (List ℕ) → List ℕ
text_of tag name texts = text_at (row_of tag name) texts

abbrev pub texts_at : Option Row → List (List ℕ) → List (List ℕ)
texts_at None texts = []
texts_at (Some row) texts = drop (place_of row - 1) texts

-- the texts from a form's field on
abbrev pub texts_from : Tag → FieldName → List (List ℕ) → List (List ℕ)
texts_from tag name texts = texts_at (row_of tag name) texts

-- ---- the fields that more than one form or rule speaks of

abbrev pub site_of : Tag → List (List ℕ) → Option Site
site_of tag texts = site_in (text_of tag State texts) (text_of tag County texts) (text_of tag SiteNumber texts)

-- the site that is joined to another one
abbrev pub joined_of : Tag → List (List ℕ) → Option Site
joined_of tag texts =
    site_in (text_of tag JoinedState texts) (text_of tag JoinedCounty texts) (text_of tag JoinedNumber texts)

abbrev pub pollutant_of : Tag → List (List ℕ) → Option Pollutant
pollutant_of tag texts = parameter_of tag (text_of tag Parameter texts)

-- ---- how many fields a line has

abbrev pub is_key : Row → Bool
is_key (Key place name rule) = true
is_key (Content place name rule) = false
is_key (Optional place name rule) = false
is_key (Unread place) = false

-- whether an insertion or update needs the field
abbrev pub is_needed : Row → Bool
is_needed (Key place name rule) = true
is_needed (Content place name rule) = true
is_needed (Optional place name rule) = false
is_needed (Unread place) = false

abbrev pub key_rows : Tag → List Row
key_rows tag = filter is_key (form tag).rows

-- the last place of rows that stand after the given place
abbrev pub last_place : ℕ → List Row → ℕ
last_place place [] = place
last_place place (row ∷ rows) = last_place (place_of row) rows

-- how many fields a line needs: a deletion those up to its key's last
abbrev pub fewest_fields : Tag → Bool → ℕ
fewest_fields tag deletes =
    if deletes then last_place ACTION_PLACE (key_rows tag)
    else last_place ACTION_PLACE (filter is_needed (form tag).rows)

-- how many fields a form has; those after them are empty
abbrev pub most_fields : Tag → ℕ
most_fields tag = last_place ACTION_PLACE (form tag).rows
