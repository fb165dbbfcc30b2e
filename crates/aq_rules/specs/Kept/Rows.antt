-- An office as rows of tables: its records, its loads, and its observations with their methods; and which lists of rows are an office's (own).
use Rattle.std.specs.Prelude.{◌≡◌, ℕ, ◌+◌, ◌*◌, ◌/◌, ◌%◌, Bool, true, false, not, ◌&&◌, ◌==◌, nat_le, if◌then◌else◌, List, [], ◌∷◌, ◌++◌, length, map, filter_map, find, count_by, sum_by, codes, decimal, bytes_eq, Option, Some, None, is_some, option_map, ℤ, pos, negsuc, ◌+ℤ◌, ◌-ℤ◌}
use Rattle.std.specs.List.{list_all, before_first, after_first, slice_split, join_with_byte}
use Rattle.std.specs.Option.{option_eq}
use Rattle.std.specs.Ordering.{int_eq}
use Rattle.std.specs.Str.Parse.{digits_value}
use Rattle.aq_base.specs.Calendar.{day_number, hour_number}
use Rattle.aq_base.specs.Decimal.{are_digits}
use Rattle.aq_base.specs.Rule.{rule_number, all_rules}
use Rattle.aq_base.specs.Site.{Site}
use Rattle.aq_base.specs.declared.code.Code.{Code}
use Rattle.aq_base.specs.declared.monitor.Pollutant.{Pollutant}
use Rattle.aq_base.specs.declared.monitor.Pollutant.TheVariants.{Ozone, Pm25, Pm10}
use Rattle.aq_base.specs.declared.office.OfficeRecord.{OfficeRecord}
use Rattle.aq_base.specs.declared.office.OfficeRecord.TheVariants.{Concurrence}
use Rattle.aq_base.specs.declared.office.OfficeLine.TheVariants.{Put, Change}
use Rattle.aq_base.specs.declared.observation.ObsKey.{ObsKey}
use Rattle.aq_base.specs.declared.observation.Observation.{Observation}
use Rattle.aq_base.specs.declared.reply.ListedLine.{ListedLine}
use Rattle.aq_base.specs.declared.reply.RestRule.{RestRule}
use Rattle.aq_base.specs.declared.rule.Rule.{Rule}
use Rattle.aq_rules.specs.Limits.{MOST_OBSERVATIONS, MOST_SITES, MOST_LOADS}
use Rattle.aq_rules.specs.Lines.Spellings.{◌>>=◌, qualifier_in}
use Rattle.aq_rules.specs.Lines.Fields.{is_empty, is_space}
use Rattle.aq_rules.specs.Lines.Reading.{LineValue, OfOffice, line_value}
use Rattle.aq_rules.specs.Lines.Canonical.{canonical_office, record_line, printed_key}
use Rattle.aq_rules.specs.Office.Office.{Office, StoredLoad, kind_of, key_of, pollutant_number, record_rank, observation_rank, load_rank, rises, fits_records, is_alone, sites_of, fits_monitors, is_load}
use Rattle.aq_rules.specs.Shown.Export.{null_text, codes_text}

-- ---- rows; a keeper may hand out any

-- by kind from 1 (a monitor) to 9 (a combination) and printed key: the record's canonical line
pub record OfficeRow : Type 0 where
  pub kind : ℤ
  pub key : List ℕ
  pub line : List ℕ

-- an observation of version 1, which kept no methods. By the first four: a value, or a null code, and the qualifiers
pub record ObsRow : Type 0 where
  pub site : ℤ
  pub pollutant : ℤ
  pub poc : ℤ
  pub hour : ℤ
  pub value : Option ℤ
  pub null : List ℕ
  pub quals : List ℕ

-- an observation, with its method
pub record ObsRow2 : Type 0 where
  pub site : ℤ
  pub pollutant : ℤ
  pub poc : ℤ
  pub hour : ℤ
  pub value : Option ℤ
  pub method : Option ℤ
  pub null : List ℕ
  pub quals : List ℕ

-- by number: `listed` has `line:rule` for each listed line, `rest` has `rule:count`
pub record LoadRow : Type 0 where
  pub number : ℤ
  pub digest : List ℕ
  pub lines : ℤ
  pub accepted : ℤ
  pub listed : List ℕ
  pub rest : List ℕ

pub data Row : Type 0 where
  OfOfficeRow : (row : OfficeRow) → Row
  OfObsRow : (row : ObsRow) → Row
  OfLoadRow : (row : LoadRow) → Row
  OfSecondRow : (row : ObsRow2) → Row

-- ---- an office's rows

abbrev pub office_row : OfficeRecord → OfficeRow
office_row r = record {
  kind = pos (kind_of (key_of r));
  key = printed_key (key_of r);
  line = canonical_office (record_line r);
}

abbrev pub site_key : Site → ℕ
site_key site = site.state * 10000000 + site.county * 10000 + site.number

-- Tables that were written when the profile began in 2000 stay as they are: a row counts its hour from 2000-01-01 00:00, and an earlier hour is below zero.
unfoldable pub hours_before_2000 : ℕ
hours_before_2000 = hour_number (day_number 2000 1 1) 0

abbrev pub stored_hour : ℕ → ℤ
stored_hour hour = pos hour -ℤ pos hours_before_2000

abbrev pub obs_row : (ObsKey × Observation) → ObsRow2
obs_row entry = record {
  site = pos (site_key entry.0.monitor.site);
  pollutant = pos (pollutant_number entry.0.monitor.pollutant);
  poc = pos entry.0.monitor.poc;
  hour = stored_hour entry.0.hour;
  value = entry.1.value;
  method = option_map pos entry.1.method;
  null = null_text entry.1.null;
  quals = codes_text entry.1.quals;
}

-- two numbers with a colon between them
abbrev pub pair_text : ℕ → ℕ → List ℕ
pair_text a b = decimal a ++ codes ":" ++ decimal b

abbrev pub listed_text : List ListedLine → List ℕ
listed_text listed = join_with_byte 32 (map (λ (l : ListedLine). pair_text l.line (rule_number l.rule)) listed)

abbrev pub rest_text : List RestRule → List ℕ
rest_text rest = join_with_byte 32 (map (λ (r : RestRule). pair_text (rule_number r.rule) r.count) rest)

abbrev pub load_row : StoredLoad → LoadRow
load_row load = record {
  number = pos load.number;
  digest = load.digest;
  lines = pos load.reply.lines;
  accepted = pos load.reply.accepted;
  listed = listed_text load.reply.listed;
  rest = rest_text load.reply.rest;
}

-- the records, the loads and the observations; the table of version 1 is empty
unfoldable pub rows_of : Office → List Row
rows_of office =
    map (λ r. OfOfficeRow (office_row r)) office.records
    ++ map (λ l. OfLoadRow (load_row l)) office.loads
    ++ map (λ o. OfSecondRow (obs_row o)) office.observations

-- ---- what a row says: it counts only if it is the row of that

abbrev pub whole : ℤ → Option ℕ
whole (pos n) = Some n
whole (negsuc n) = None

-- the hour that a row counts, or nothing if it comes before the profile
abbrev pub hour_of_stored : ℤ → Option ℕ
hour_of_stored stored = whole (stored +ℤ pos hours_before_2000)

abbrev pub record_in : LineValue → Option OfficeRecord
record_in (OfOffice (Put r)) = Some r
record_in (OfOffice (Change (Concurrence number agreed))) = Some (Concurrence number agreed)
record_in _ = None

abbrev pub is_office_row : OfficeRow → OfficeRow → Bool
is_office_row a b = int_eq a.kind b.kind && bytes_eq a.key b.key && bytes_eq a.line b.line

-- whether the value stands, as its test says
abbrev pub only_if : {X : Type 0} → (X → Bool) → X → Option X
only_if test x = if test x then Some x else None

unfoldable pub record_of_row : OfficeRow → Option OfficeRecord
record_of_row row = (line_value row.line >>= record_in) >>= only_if (λ r. is_office_row (office_row r) row)

abbrev pub site_with : ℕ → Site
site_with n = record { state = n / 10000000; county = n / 10000 % 1000; number = n % 10000 }

abbrev pub pollutant_with : ℕ → Option Pollutant
pollutant_with n = find (λ p. pollutant_number p == n) (Ozone ∷ Pm25 ∷ Pm10 ∷ [])

-- the parts of a text between single spaces
abbrev pub words : List ℕ → List (List ℕ)
words text = if is_empty text then [] else slice_split is_space text

-- what each part says, or nothing if one says nothing
abbrev pub each : {X : Type 0} → (List ℕ → Option X) → List (List ℕ) → Option (List X)
each read [] = Some []
each read (text ∷ texts) = read text >>= (λ x. option_map (λ xs. x ∷ xs) (each read texts))

abbrev pub null_of : List ℕ → Option (Option Code)
null_of text = if is_empty text then Some None else option_map Some (qualifier_in text)

-- no method, or a whole number
abbrev pub method_of : Option ℤ → Option (Option ℕ)
method_of None = Some None
method_of (Some method) = option_map Some (whole method)

abbrev pub is_obs_row : ObsRow2 → ObsRow2 → Bool
is_obs_row a b =
    int_eq a.site b.site && int_eq a.pollutant b.pollutant && int_eq a.poc b.poc && int_eq a.hour b.hour
    && option_eq int_eq a.value b.value && option_eq int_eq a.method b.method && bytes_eq a.null b.null
    && bytes_eq a.quals b.quals

unfoldable pub observation_of_row : ObsRow2 → Option (ObsKey × Observation)
observation_of_row row = do
  site ← whole row.site
  number ← whole row.pollutant
  pollutant ← pollutant_with number
  poc ← whole row.poc
  hour ← hour_of_stored row.hour
  method ← method_of row.method
  null ← null_of row.null
  quals ← each qualifier_in (words row.quals)
  only_if (λ o. is_obs_row (obs_row o) row) (record { monitor = record { site = site_with site; pollutant = pollutant; poc = poc }; hour = hour }, record { value = row.value; null = null; quals = quals; method = method })

abbrev pub number_in : List ℕ → Option ℕ
number_in text = if are_digits text && not (is_empty text) then Some (digits_value 10 text) else None

abbrev pub is_colon : ℕ → Bool
is_colon byte = byte == 58

abbrev pub rule_with : ℕ → Option Rule
rule_with number = find (λ r. rule_number r == number) all_rules

unfoldable pub listed_in : List ℕ → Option ListedLine
listed_in text = do
  line ← number_in (before_first is_colon text)
  number ← number_in (after_first is_colon text)
  rule ← rule_with number
  Some (record { line = line; rule = rule })

unfoldable pub rest_in : List ℕ → Option RestRule
rest_in text = do
  number ← number_in (before_first is_colon text)
  rule ← rule_with number
  count ← number_in (after_first is_colon text)
  Some (record { rule = rule; count = count })

abbrev pub is_load_row : LoadRow → LoadRow → Bool
is_load_row a b =
    int_eq a.number b.number && bytes_eq a.digest b.digest && int_eq a.lines b.lines && int_eq a.accepted b.accepted
    && bytes_eq a.listed b.listed && bytes_eq a.rest b.rest

-- the refused lines are those that are listed and the rest
unfoldable pub load_of_row : LoadRow → Option StoredLoad
load_of_row row = do
  number ← whole row.number
  lines ← whole row.lines
  accepted ← whole row.accepted
  listed ← each listed_in (words row.listed)
  rest ← each rest_in (words row.rest)
  only_if (λ l. is_load_row (load_row l) row) (record { number = number; digest = row.digest; reply = record { number = number; lines = lines; accepted = accepted; refused = length listed + sum_by (λ (r : RestRule). r.count) rest; listed = listed; rest = rest } })

-- ---- which rows are an office's

abbrev pub record_in_row : Row → Option OfficeRecord
record_in_row (OfOfficeRow row) = record_of_row row
record_in_row row = None

abbrev pub observation_in_row : Row → Option (ObsKey × Observation)
observation_in_row (OfSecondRow row) = observation_of_row row
observation_in_row row = None

abbrev pub load_in_row : Row → Option StoredLoad
load_in_row (OfLoadRow row) = load_of_row row
load_in_row row = None

-- a row of version 1 says nothing of an office: it is migrated first
abbrev pub says_something : Row → Bool
says_something (OfOfficeRow row) = is_some (record_of_row row)
says_something (OfObsRow row) = false
says_something (OfLoadRow row) = is_some (load_of_row row)
says_something (OfSecondRow row) = is_some (observation_of_row row)

abbrev pub office_in : List Row → Office
office_in rows = record {
  records = filter_map record_in_row rows;
  observations = filter_map observation_in_row rows;
  loads = filter_map load_in_row rows;
}

-- tables by their numbers
abbrev pub table_of : Row → ℕ
table_of (OfOfficeRow row) = 0
table_of (OfObsRow row) = 1
table_of (OfLoadRow row) = 2
table_of (OfSecondRow row) = 3

abbrev pub tables_follow : List Row → Bool
tables_follow [] = true
tables_follow (row ∷ []) = true
tables_follow (row ∷ next ∷ rows) = nat_le (table_of row) (table_of next) && tables_follow (next ∷ rows)

-- the facts of a valid office, in their order, as one test
abbrev pub is_valid : Office → Bool
is_valid office =
    rises record_rank office.records && rises observation_rank office.observations && rises load_rank office.loads
    && list_all (fits_records office) office.records && list_all (is_alone office) office.records
    && nat_le (length (sites_of office.records)) MOST_SITES
    && list_all (fits_monitors office) office.observations && nat_le (length office.observations) MOST_OBSERVATIONS
    && list_all is_load office.loads && nat_le (length office.loads) MOST_LOADS

unfoldable pub are_office_rows : List Row → Bool
are_office_rows rows = list_all says_something rows && tables_follow rows && is_valid (office_in rows)

unfoldable pub office_of_rows : List Row → Option Office
office_of_rows rows = if are_office_rows rows then Some (office_in rows) else None

-- ---- damaged rows

-- a row by its table, and its place among that table's rows from 0
pub record Place : Type 0 where
  pub table : ℕ
  pub index : ℕ

abbrev pub place_of : List Row → Row → Place
place_of before row = record { table = table_of row; index = count_by (λ other. table_of other == table_of row) before }

-- what the first bad row is, by a test on rows: the rows before it pass, and those up to it do not
pub record FirstBad (pass : List Row → Bool) (rows : List Row) (place : Place) : Type 0 where
  pub before : List Row
  pub row : Row
  pub after : List Row
  pub rows_are : rows ≡ before ++ row ∷ after
  pub good : pass before ≡ true
  pub bad : pass (before ++ row ∷ []) ≡ false
  pub place_is : place ≡ place_of before row

-- the place of the first bad row among those that follow
abbrev pub first_bad : (List Row → Bool) → List Row → List Row → Option Place
first_bad pass before [] = None
first_bad pass before (row ∷ rows) =
    if pass (before ++ row ∷ []) then first_bad pass (before ++ row ∷ []) rows else Some (place_of before row)

-- what the first damaged row is: the rows before it are an office's, and those up to it are no office's
abbrev pub FirstDamaged : List Row → Place → Type 0
FirstDamaged rows place = FirstBad are_office_rows rows place

abbrev pub damaged_at : List Row → List Row → Option Place
damaged_at before rows = first_bad are_office_rows before rows

-- its place, found from the first row on; none if all rows are an office's
unfoldable pub damage : List Row → Option Place
damage rows = damaged_at [] rows
