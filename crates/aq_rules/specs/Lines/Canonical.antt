-- The one line by which a value is written (own, within the AQS raw data transaction format), and the printed keys of office records (own).
use Rattle.std.specs.Prelude.{ℕ, nat_le, ◌&&◌, Bool, true, false, ◌==◌, if◌then◌else◌, Option, Some, None, is_some, List, [], ◌∷◌, ◌++◌, map, codes, decimal, ℤ}
use Rattle.std.specs.List.{join_with_byte}
use Rattle.aq_base.specs.Calendar.{year_of, month_of, day_of_month, day_of_hour, hour_of_day}
use Rattle.aq_base.specs.Decimal.{fixed, last_digits}
use Rattle.aq_base.specs.Site.{Site}
use Rattle.aq_base.specs.declared.code.Code.{Code}
use Rattle.aq_base.specs.declared.monitor.Pollutant.{Pollutant}
use Rattle.aq_base.specs.declared.monitor.Pollutant.TheVariants.{Ozone, Pm25, Pm10}
use Rattle.aq_base.specs.declared.monitor.Duration.{Duration}
use Rattle.aq_base.specs.declared.monitor.Duration.TheVariants.{Hour, Day}
use Rattle.aq_base.specs.declared.monitor.MonitorId.{MonitorId}
use Rattle.aq_base.specs.declared.office.OfficeRecord.{OfficeRecord}
use Rattle.aq_base.specs.declared.office.OfficeRecord.TheVariants.{Monitor, Primary, Schedule, Season, Makeup, Event, Concurrence, Approved, Combined}
use Rattle.aq_base.specs.declared.office.OfficeKey.{OfficeKey}
use Rattle.aq_base.specs.declared.office.OfficeKey.TheVariants.{Monitor as MonitorKey, Primary as PrimaryKey, Schedule as ScheduleKey, Season as SeasonKey, Makeup as MakeupKey, Event as EventKey, Concurrence as ConcurrenceKey, Approved as ApprovedKey, Combined as CombinedKey}
use Rattle.aq_base.specs.declared.office.OfficeLine.{OfficeLine}
use Rattle.aq_base.specs.declared.office.OfficeLine.TheVariants.{Put, Change, Drop}
use Rattle.aq_rules.specs.Office.Office.{key_of, is_key, is_record, is_site, is_poc, is_content}
use Rattle.aq_rules.specs.Lines.Spellings.{has_duration}
use Rattle.aq_base.specs.declared.day.TheConstants.{LAST_HOUR}
use Rattle.aq_rules.specs.Lines.Reading.{LineValue, OfRd, OfOffice}
use Rattle.aq_rules.specs.Lines.RdForm.{RdValue, Put as PutSample, Delete as DeleteSample}

-- ---- texts of the parts

abbrev pub site_texts : Site → List (List ℕ)
site_texts site = last_digits 2 site.state ∷ last_digits 3 site.county ∷ last_digits 4 site.number ∷ []

abbrev pub parameter_text : Pollutant → List ℕ
parameter_text Ozone = codes "44201"
parameter_text Pm25 = codes "88101"
parameter_text Pm10 = codes "81102"

abbrev pub duration_text : Duration → List ℕ
duration_text Hour = codes "1"
duration_text Day = codes "7"

-- the unit in which values are written, and the places after the point
abbrev pub unit_text : Pollutant → List ℕ
unit_text Ozone = codes "007"
unit_text Pm25 = codes "105"
unit_text Pm10 = codes "001"

abbrev pub value_places : Pollutant → ℕ
value_places Ozone = 3
value_places Pm25 = 1
value_places Pm10 = 1

abbrev pub date_text : ℕ → List ℕ
date_text day = last_digits 4 (year_of day) ++ last_digits 2 (month_of day) ++ last_digits 2 (day_of_month day)

abbrev pub time_text : ℕ → List ℕ
time_text hour = last_digits 2 (hour_of_day hour) ++ codes ":00"

abbrev pub code_text : Code → List ℕ
code_text code = if code.second == 0 then code.first ∷ [] else code.first ∷ code.second ∷ []

abbrev pub truth_text : Bool → List ℕ
truth_text true = codes "Y"
truth_text false = codes "N"

abbrev pub joined : List (List ℕ) → List ℕ
joined texts = join_with_byte 124 texts

-- ---- RD lines

abbrev pub value_text : Pollutant → Option ℤ → List ℕ
value_text pollutant None = []
value_text pollutant (Some value) = fixed value (value_places pollutant)

-- what follows the value: the null code and the qualifiers, without empty fields at the end
abbrev pub texts_behind : Option Code → List Code → List (List ℕ)
texts_behind None [] = []
texts_behind (Some null) [] = code_text null ∷ []
texts_behind None (code ∷ codes) = [] ∷ [] ∷ [] ∷ map code_text (code ∷ codes)
texts_behind (Some null) (code ∷ codes) = code_text null ∷ [] ∷ [] ∷ map code_text (code ∷ codes)

-- the fields up to the POC
abbrev pub monitor_texts : MonitorId → List (List ℕ)
monitor_texts id = site_texts id.site ++ parameter_text id.pollutant ∷ decimal id.poc ∷ []

abbrev pub start_texts : ℕ → List (List ℕ)
start_texts hour = date_text (day_of_hour hour) ∷ time_text hour ∷ []

-- the method in three digits
abbrev pub method_text : Option ℕ → List ℕ
method_text None = []
method_text (Some method) = last_digits 3 method

unfoldable pub rd_texts : RdValue → List (List ℕ)
rd_texts (PutSample update monitor duration hour content) =
    codes "RD" ∷ (if update then codes "U" else codes "I") ∷ monitor_texts monitor
    ++ duration_text duration ∷ unit_text monitor.pollutant ∷ method_text content.method ∷ start_texts hour
    ++ value_text monitor.pollutant content.value ∷ texts_behind content.null content.quals
rd_texts (DeleteSample monitor hour) =
    codes "RD" ∷ codes "D" ∷ monitor_texts monitor ++ [] ∷ [] ∷ [] ∷ start_texts hour

abbrev pub canonical_rd : RdValue → List ℕ
canonical_rd value = joined (rd_texts value)

-- a sample that a body's line can spell: it has a method
abbrev pub is_rd_value : RdValue → Bool
is_rd_value (PutSample update monitor duration hour content) =
    is_site monitor.site && is_poc monitor.poc && has_duration monitor.pollutant duration && is_some content.method
    && nat_le hour LAST_HOUR && is_content monitor.pollutant content
is_rd_value (DeleteSample monitor hour) = is_site monitor.site && is_poc monitor.poc && nat_le hour LAST_HOUR

-- ---- office lines

-- site, parameter and date
abbrev pub list_texts : Site → Pollutant → ℕ → List (List ℕ)
list_texts site pollutant from = site_texts site ++ parameter_text pollutant ∷ date_text from ∷ []

-- site and parameter
abbrev pub series_texts : Site → Pollutant → List (List ℕ)
series_texts site pollutant = site_texts site ++ parameter_text pollutant ∷ []

-- the form of a key, and the fields of its deletion
abbrev pub key_tag : OfficeKey → List ℕ
key_tag (MonitorKey id) = codes "XM"
key_tag (PrimaryKey site pollutant from) = codes "XP"
key_tag (ScheduleKey site pollutant from) = codes "XS"
key_tag (SeasonKey site year) = codes "XO"
key_tag (MakeupKey site missed) = codes "XU"
key_tag (EventKey number) = codes "XE"
key_tag (ConcurrenceKey number) = codes "XC"
key_tag (ApprovedKey site day) = codes "XA"
key_tag (CombinedKey site pollutant) = codes "XB"

abbrev pub deletion_texts : OfficeKey → List (List ℕ)
deletion_texts (MonitorKey id) = monitor_texts id
deletion_texts (PrimaryKey site pollutant from) = list_texts site pollutant from
deletion_texts (ScheduleKey site pollutant from) = list_texts site pollutant from
deletion_texts (SeasonKey site year) = site_texts site ++ last_digits 4 year ∷ []
deletion_texts (MakeupKey site missed) = list_texts site Pm25 missed
deletion_texts (EventKey number) = decimal number ∷ []
deletion_texts (ConcurrenceKey number) = decimal number ∷ []
deletion_texts (ApprovedKey site day) = site_texts site ++ date_text day ∷ []
deletion_texts (CombinedKey site pollutant) = series_texts site pollutant

-- what a record's line has after the fields of its key
abbrev pub content_texts : OfficeRecord → List (List ℕ)
content_texts (Monitor id duration eligible) = duration_text duration ∷ truth_text eligible ∷ []
content_texts (Primary site pollutant from poc) = decimal poc ∷ []
content_texts (Schedule site pollutant from interval anchor) = decimal interval ∷ date_text anchor ∷ []
content_texts (Season site year first last) = date_text first ∷ date_text last ∷ []
content_texts (Makeup site missed makeup) = date_text makeup ∷ []
content_texts (Event number site pollutant first last code) =
    site_texts site ++ parameter_text pollutant ∷ start_texts first ++ start_texts last ++ code_text code ∷ []
content_texts (Concurrence number agreed) = truth_text agreed ∷ []
content_texts (Approved site day) = []
content_texts (Combined site pollutant from joined) = date_text from ∷ site_texts joined

abbrev pub office_texts_of : List ℕ → OfficeRecord → List (List ℕ)
office_texts_of action r = key_tag (key_of r) ∷ action ∷ deletion_texts (key_of r) ++ content_texts r

unfoldable pub office_texts : OfficeLine → List (List ℕ)
office_texts (Put r) = office_texts_of (codes "I") r
office_texts (Change r) = office_texts_of (codes "U") r
office_texts (Drop key) = key_tag key ∷ codes "D" ∷ deletion_texts key

abbrev pub canonical_office : OfficeLine → List ℕ
canonical_office line = joined (office_texts line)

-- an office line that a body's line can spell
abbrev pub is_office_line : OfficeLine → Bool
is_office_line (Put (Concurrence number agreed)) = false
is_office_line (Put r) = is_record r
is_office_line (Change (Monitor id duration eligible)) = is_record (Monitor id duration eligible)
is_office_line (Change (Concurrence number agreed)) = is_record (Concurrence number agreed)
is_office_line (Change r) = false
is_office_line (Drop (MonitorKey id)) = false
is_office_line (Drop (ConcurrenceKey number)) = false
is_office_line (Drop key) = is_key key

-- a value that a body's line can spell
abbrev pub is_line_value : LineValue → Bool
is_line_value (OfRd value) = is_rd_value value
is_line_value (OfOffice line) = is_office_line line

-- the line by which a record is kept: an insertion, and for a concurrence the update that makes it
abbrev pub record_line : OfficeRecord → OfficeLine
record_line (Concurrence number agreed) = Change (Concurrence number agreed)
record_line r = Put r

-- ---- printed keys: POC in two digits and event number in six

unfoldable pub key_texts : OfficeKey → List (List ℕ)
key_texts (MonitorKey id) = site_texts id.site ++ parameter_text id.pollutant ∷ last_digits 2 id.poc ∷ []
key_texts (PrimaryKey site pollutant from) = list_texts site pollutant from
key_texts (ScheduleKey site pollutant from) = list_texts site pollutant from
key_texts (SeasonKey site year) = site_texts site ++ last_digits 4 year ∷ []
key_texts (MakeupKey site missed) = site_texts site ++ date_text missed ∷ []
key_texts (EventKey number) = last_digits 6 number ∷ []
key_texts (ConcurrenceKey number) = last_digits 6 number ∷ []
key_texts (ApprovedKey site day) = site_texts site ++ date_text day ∷ []
key_texts (CombinedKey site pollutant) = series_texts site pollutant

abbrev pub printed_key : OfficeKey → List ℕ
printed_key key = joined (key_texts key)
