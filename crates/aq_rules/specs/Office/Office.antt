-- An agency's office: its records, its observations and its loads, each a list in rising order of distinct keys (own).
use Rattle.std.specs.Prelude.{ℕ, ◌+◌, Bool, true, false, not, ◌&&◌, ◌||◌, ◌==◌, nat_lt, nat_le, if◌then◌else◌, IsTrue, Option, Some, None, is_some, List, [], ◌∷◌, ◌++◌, length, find, filter, count_by, sum_by, bytes_eq, option_map, ℤ, ◌≤◌}
use Rattle.std.specs.List.{list_all, list_any}
use Rattle.aq_base.specs.Calendar.{is_year, quarter_of, hour_of_day}
pub use Rattle.aq_base.specs.OfficeKeys.{key_of}
use Rattle.aq_base.specs.Quals.{all_distinct}
use Rattle.aq_base.specs.Rule.{rule_number}
use Rattle.aq_base.specs.Site.{Site}
use Rattle.aq_base.specs.declared.code.Code.{Code}
use Rattle.aq_base.specs.declared.day.TheConstants.{LAST_DAY, LAST_HOUR}
use Rattle.aq_base.specs.declared.quals.TheConstants.{MOST_QUALIFIERS}
use Rattle.aq_base.specs.declared.observation.TheConstants.{LAST_METHOD}
use Rattle.aq_base.specs.declared.monitor.Pollutant.{Pollutant}
use Rattle.aq_base.specs.declared.monitor.Pollutant.TheVariants.{Ozone, Pm25, Pm10}
use Rattle.aq_base.specs.declared.monitor.Duration.{Duration}
use Rattle.aq_base.specs.declared.monitor.Duration.TheVariants.{Hour, Day}
use Rattle.aq_base.specs.declared.monitor.MonitorId.{MonitorId}
use Rattle.aq_base.specs.declared.office.OfficeRecord.{OfficeRecord}
use Rattle.aq_base.specs.declared.office.OfficeRecord.TheVariants.{Monitor, Primary, Schedule, Season, Makeup, Event, Concurrence, Approved, Combined}
use Rattle.aq_base.specs.declared.office.OfficeKey.{OfficeKey}
use Rattle.aq_base.specs.declared.office.OfficeKey.TheVariants.{Monitor as MonitorKey, Primary as PrimaryKey, Schedule as ScheduleKey, Season as SeasonKey, Makeup as MakeupKey, Event as EventKey, Concurrence as ConcurrenceKey, Approved as ApprovedKey, Combined as CombinedKey}
use Rattle.aq_base.specs.declared.observation.ObsKey.{ObsKey}
use Rattle.aq_base.specs.declared.observation.Observation.{Observation}
use Rattle.aq_base.specs.declared.reply.LoadReply.{LoadReply}
use Rattle.aq_base.specs.declared.reply.ListedLine.{ListedLine}
use Rattle.aq_base.specs.declared.reply.RestRule.{RestRule}
use Rattle.aq_rules.specs.Limits.{MOST_LINES, MOST_LISTED, MOST_LOADS, MOST_OBSERVATIONS, MOST_SITES, MOST_MONITORS, MOST_IN_LIST, MOST_MAKEUPS, MOST_EVENTS, LAST_LOAD_NUMBER}
use Rattle.aq_rules.specs.Lines.Spellings.{◌>>=◌, has_parameter, Xs, Xb, has_duration, is_in_range, is_code_byte, is_interval, is_event_number, is_event_code}
use Rattle.aq_rules.specs.Lines.OfficeForms.{is_season, is_makeup, is_span, is_pair}

-- a load that was taken: its number, the SHA-256 of its body, and its reply
pub record StoredLoad : Type 0 where
  pub number : ℕ
  pub digest : List ℕ
  pub reply : LoadReply

pub record Office : Type 0 where
  pub records : List OfficeRecord
  pub observations : List (ObsKey × Observation)
  pub loads : List StoredLoad

abbrev pub nothing : Office
nothing = record { records = []; observations = []; loads = [] }

-- ---- keys

abbrev pub kind_of : OfficeKey → ℕ
kind_of (MonitorKey id) = 1
kind_of (PrimaryKey site pollutant from) = 2
kind_of (ScheduleKey site pollutant from) = 3
kind_of (SeasonKey site year) = 4
kind_of (MakeupKey site missed) = 5
kind_of (EventKey number) = 6
kind_of (ConcurrenceKey number) = 7
kind_of (ApprovedKey site day) = 8
kind_of (CombinedKey site pollutant) = 9

-- A key as whole numbers, from the kind on. The printed key has each of them in a fixed width, so this is the order by kind and then by the bytes of the printed key.
abbrev pub site_numbers : Site → List ℕ
site_numbers site = site.state ∷ site.county ∷ site.number ∷ []

abbrev pub parameter_number : Pollutant → ℕ
parameter_number Ozone = 44201
parameter_number Pm25 = 88101
parameter_number Pm10 = 81102

-- a site and pollutant
abbrev pub series_numbers : Site → Pollutant → List ℕ
series_numbers site pollutant = site_numbers site ++ parameter_number pollutant ∷ []

abbrev pub part_numbers : OfficeKey → List ℕ
part_numbers (MonitorKey id) = series_numbers id.site id.pollutant ++ id.poc ∷ []
part_numbers (PrimaryKey site pollutant from) = series_numbers site pollutant ++ from ∷ []
part_numbers (ScheduleKey site pollutant from) = series_numbers site pollutant ++ from ∷ []
part_numbers (SeasonKey site year) = site_numbers site ++ year ∷ []
part_numbers (MakeupKey site missed) = site_numbers site ++ missed ∷ []
part_numbers (EventKey number) = number ∷ []
part_numbers (ConcurrenceKey number) = number ∷ []
part_numbers (ApprovedKey site day) = site_numbers site ++ day ∷ []
part_numbers (CombinedKey site pollutant) = series_numbers site pollutant

abbrev pub key_numbers : OfficeKey → List ℕ
key_numbers key = kind_of key ∷ part_numbers key

-- pollutants in the order of the table of observations
abbrev pub pollutant_number : Pollutant → ℕ
pollutant_number Ozone = 1
pollutant_number Pm25 = 2
pollutant_number Pm10 = 3

abbrev pub observation_numbers : ObsKey → List ℕ
observation_numbers key =
    site_numbers key.monitor.site ++ pollutant_number key.monitor.pollutant ∷ key.monitor.poc ∷ key.hour ∷ []

-- the rank of a row is its key as numbers
abbrev pub record_rank : OfficeRecord → List ℕ
record_rank r = key_numbers (key_of r)

abbrev pub observation_key : ObsKey × Observation → ObsKey
observation_key row = row.0

abbrev pub observation_rank : ObsKey × Observation → List ℕ
observation_rank row = observation_numbers (observation_key row)

abbrev pub load_rank : StoredLoad → List ℕ
load_rank load = load.number ∷ []

-- ---- lists in rising order of distinct ranks

abbrev pub is_same : List ℕ → List ℕ → Bool
is_same a b = bytes_eq a b

-- the first number in which they differ decides, and else a shorter list comes first
abbrev pub comes_before : List ℕ → List ℕ → Bool
comes_before xs [] = false
comes_before [] (y ∷ ys) = true
comes_before (x ∷ xs) (y ∷ ys) = nat_lt x y || ((x == y) && comes_before xs ys)

abbrev pub rises_from : {X : Type 0} → (X → List ℕ) → X → List X → Bool
rises_from rank first [] = true
rises_from rank first (row ∷ rows) = comes_before (rank first) (rank row) && rises_from rank row rows

abbrev pub rises : {X : Type 0} → (X → List ℕ) → List X → Bool
rises rank [] = true
rises rank (row ∷ rows) = rises_from rank row rows

-- the row with this rank
abbrev pub row_at : {X : Type 0} → (X → List ℕ) → List ℕ → List X → Option X
row_at rank key rows = find (λ row. is_same (rank row) key) rows

-- the rows with this one at its place, if it takes the place of one with its rank
abbrev pub with_row : {X : Type 0} → (X → List ℕ) → X → List X → List X
with_row rank row [] = row ∷ []
with_row rank row (first ∷ rows) =
    if comes_before (rank row) (rank first) then row ∷ first ∷ rows
    else (if is_same (rank row) (rank first) then row ∷ rows else first ∷ with_row rank row rows)

abbrev pub without_row : {X : Type 0} → (X → List ℕ) → List ℕ → List X → List X
without_row rank key rows = filter (λ row. not (is_same (rank row) key)) rows

-- ---- look-ups

abbrev pub record_at : Office → OfficeKey → Option OfficeRecord
record_at office key = row_at record_rank (key_numbers key) office.records

abbrev pub content_of : ObsKey × Observation → Observation
content_of row = row.1

abbrev pub observation_at : Office → ObsKey → Option Observation
observation_at office key =
    option_map content_of (row_at observation_rank (observation_numbers key) office.observations)

abbrev pub load_at : Office → ℕ → Option StoredLoad
load_at office number = row_at load_rank (number ∷ []) office.loads

abbrev pub monitor_duration : OfficeRecord → Option Duration
monitor_duration (Monitor id duration eligible) = Some duration
monitor_duration _ = None

-- a registered monitor's duration
abbrev pub duration_at : Office → MonitorId → Option Duration
duration_at office id = record_at office (MonitorKey id) >>= monitor_duration

-- whether a site has a monitor of the pollutant
abbrev pub registers : Site → Pollutant → OfficeRecord → Bool
registers site pollutant (Monitor id duration eligible) =
    is_same (series_numbers id.site id.pollutant) (series_numbers site pollutant)
registers site pollutant _ = false

abbrev pub has_monitor : Office → Site → Pollutant → Bool
has_monitor office site pollutant = list_any (registers site pollutant) office.records

-- the registered sites, each once
abbrev pub with_site : Site → List Site → List Site
with_site site sites =
    if list_any (λ other. is_same (site_numbers other) (site_numbers site)) sites then sites else site ∷ sites

abbrev pub sites_of : List OfficeRecord → List Site
sites_of [] = []
sites_of (Monitor id duration eligible ∷ records) = with_site id.site (sites_of records)
sites_of (_ ∷ records) = sites_of records

-- ---- limits of the records

-- what a limit counts together: monitors, designations and schedules by site and pollutant, make-up records by site and quarter, and all events. Each other record stands alone
abbrev pub group_of : OfficeRecord → List ℕ
group_of (Monitor id duration eligible) = 1 ∷ series_numbers id.site id.pollutant
group_of (Primary site pollutant from poc) = 2 ∷ series_numbers site pollutant
group_of (Schedule site pollutant from interval anchor) = 3 ∷ series_numbers site pollutant
group_of (Makeup site missed makeup) = 5 ∷ site_numbers site ++ quarter_of missed ∷ []
group_of (Event number site pollutant first last code) = 6 ∷ []
group_of r = record_rank r

abbrev pub most_in_group : OfficeRecord → ℕ
most_in_group (Monitor id duration eligible) = MOST_MONITORS
most_in_group (Primary site pollutant from poc) = MOST_IN_LIST
most_in_group (Schedule site pollutant from interval anchor) = MOST_IN_LIST
most_in_group (Makeup site missed makeup) = MOST_MAKEUPS
most_in_group (Event number site pollutant first last code) = MOST_EVENTS
most_in_group r = 1

abbrev pub group_size : Office → OfficeRecord → ℕ
group_size office r = count_by (λ other. is_same (group_of other) (group_of r)) office.records

-- a make-up record by its make-up day
abbrev pub makes_up_on : Site → ℕ → OfficeRecord → Bool
makes_up_on site day (Makeup other missed makeup) = is_same (site_numbers other) (site_numbers site) && (makeup == day)
makes_up_on site day _ = false

abbrev pub makeups_on : Office → Site → ℕ → ℕ
makeups_on office site day = count_by (makes_up_on site day) office.records

-- a combination with the site in either part
abbrev pub combines : Site → Pollutant → OfficeRecord → Bool
combines site pollutant (Combined first other from joined) =
    is_same (series_numbers first other) (series_numbers site pollutant)
    || is_same (series_numbers joined other) (series_numbers site pollutant)
combines site pollutant _ = false

abbrev pub combines_either : Site → Site → Pollutant → OfficeRecord → Bool
combines_either site joined pollutant r = combines site pollutant r || combines joined pollutant r

-- how many combinations have one of the two sites in either part
abbrev pub combinations_of : Office → Site → Site → Pollutant → ℕ
combinations_of office site joined pollutant = count_by (combines_either site joined pollutant) office.records

-- the monitors without which a record does not stand: of a designation the monitor itself, unless it names none
abbrev pub has_its_monitor : Office → OfficeRecord → Bool
has_its_monitor office (Monitor id duration eligible) = true
has_its_monitor office (Primary site pollutant from poc) =
    if poc == 0 then has_monitor office site pollutant
    else is_some (duration_at office (record { site = site; pollutant = pollutant; poc = poc }))
has_its_monitor office (Schedule site pollutant from interval anchor) = has_monitor office site pollutant
has_its_monitor office (Season site year first last) = has_monitor office site Ozone
has_its_monitor office (Makeup site missed makeup) = has_monitor office site Pm25
has_its_monitor office (Event number site pollutant first last code) = has_monitor office site pollutant
has_its_monitor office (Concurrence number agreed) = true
has_its_monitor office (Approved site day) = has_monitor office site Ozone
has_its_monitor office (Combined site pollutant from joined) =
    has_monitor office site pollutant && has_monitor office joined pollutant

abbrev pub event_stands : Office → ℕ → Bool
event_stands office number = is_some (record_at office (EventKey number))

abbrev pub has_its_event : Office → OfficeRecord → Bool
has_its_event office (Concurrence number agreed) = event_stands office number
has_its_event office r = true

-- ---- what is valid

abbrev pub is_site : Site → Bool
is_site site = nat_le site.state 99 && nat_le site.county 999 && nat_le site.number 9999

abbrev pub is_poc : ℕ → Bool
is_poc poc = nat_le 1 poc && nat_le poc 99

abbrev pub is_day : ℕ → Bool
is_day day = nat_le day LAST_DAY

-- a key that a line can spell
abbrev pub is_key : OfficeKey → Bool
is_key (MonitorKey id) = is_site id.site && is_poc id.poc
is_key (PrimaryKey site pollutant from) = is_site site && is_day from
is_key (ScheduleKey site pollutant from) = is_site site && has_parameter Xs pollutant && is_day from
is_key (SeasonKey site year) = is_site site && is_year year
is_key (MakeupKey site missed) = is_site site && is_day missed
is_key (EventKey number) = is_event_number number
is_key (ConcurrenceKey number) = is_event_number number
is_key (ApprovedKey site day) = is_site site && is_day day
is_key (CombinedKey site pollutant) = is_site site && has_parameter Xb pollutant

-- what a line can spell beside a key
abbrev pub is_content_of : OfficeRecord → Bool
is_content_of (Monitor id duration eligible) = has_duration id.pollutant duration
is_content_of (Primary site pollutant from poc) = nat_le poc 99
is_content_of (Schedule site pollutant from interval anchor) = is_interval interval && is_day anchor
is_content_of (Season site year first last) = is_day first && is_day last && is_season year first last
is_content_of (Makeup site missed makeup) = is_day makeup && is_makeup missed makeup
is_content_of (Event number site pollutant first last code) =
    is_site site && nat_le last LAST_HOUR && is_span first last && is_event_code code
is_content_of (Concurrence number agreed) = true
is_content_of (Approved site day) = true
is_content_of (Combined site pollutant from joined) = is_day from && is_site joined && is_pair site joined

abbrev pub is_record : OfficeRecord → Bool
is_record r = is_key (key_of r) && is_content_of r

-- a record that stands with the others
abbrev pub fits_records : Office → OfficeRecord → Bool
fits_records office r =
    is_record r && has_its_monitor office r && has_its_event office r
    && nat_le (group_size office r) (most_in_group r)

-- a make-up day makes up for one missed day alone, and a site is combined once for a pollutant
abbrev pub is_alone : Office → OfficeRecord → Bool
is_alone office (Makeup site missed makeup) = makeups_on office site makeup == 1
is_alone office (Combined site pollutant from joined) = combinations_of office site joined pollutant == 1
is_alone office r = true

abbrev pub is_null_code : Code → Bool
is_null_code code = is_code_byte code.first && is_code_byte code.second

abbrev pub is_qualifier : Code → Bool
is_qualifier code = is_code_byte code.first && ((code.second == 0) || is_code_byte code.second)

-- exactly one of a value in range and a null code
abbrev pub is_measured : Pollutant → Option ℤ → Option Code → Bool
is_measured pollutant (Some value) None = is_in_range pollutant value
is_measured pollutant None (Some null) = is_null_code null
is_measured pollutant _ _ = false

-- a method from 0 to 999, or none: an observation that was kept before methods were has none
abbrev pub is_method : Option ℕ → Bool
is_method None = true
is_method (Some method) = nat_le method LAST_METHOD

abbrev pub is_content : Pollutant → Observation → Bool
is_content pollutant content =
    is_measured pollutant content.value content.null
    && list_all is_qualifier content.quals && all_distinct content.quals
    && nat_le (length content.quals) MOST_QUALIFIERS && is_method content.method

-- a sample of 24 hours stands at hour 00 of its date
abbrev pub is_kept_hour : Option Duration → ℕ → Bool
is_kept_hour None hour = false
is_kept_hour (Some Hour) hour = true
is_kept_hour (Some Day) hour = hour_of_day hour == 0

abbrev pub fits_monitors : Office → ObsKey × Observation → Bool
fits_monitors office row =
    nat_le row.0.hour LAST_HOUR && is_kept_hour (duration_at office row.0.monitor) row.0.hour
    && is_content row.0.monitor.pollutant row.1

-- listed lines rise from 1 to the number of lines
abbrev pub listed_rank : ListedLine → List ℕ
listed_rank listed = listed.line ∷ []

abbrev pub is_listed : ℕ → ListedLine → Bool
is_listed lines listed = nat_le 1 listed.line && nat_le listed.line lines && nat_le (rule_number listed.rule) 36

abbrev pub rest_rank : RestRule → List ℕ
rest_rank rest = rule_number rest.rule ∷ []

abbrev pub is_rest : RestRule → Bool
is_rest rest = nat_le (rule_number rest.rule) 36 && nat_le 1 rest.count

abbrev pub is_reply : LoadReply → Bool
is_reply reply =
    nat_le reply.lines MOST_LINES
    && rises listed_rank reply.listed && list_all (is_listed reply.lines) reply.listed
    && nat_le (length reply.listed) MOST_LISTED
    && ((length reply.rest == 0) || (length reply.listed == MOST_LISTED))
    && rises rest_rank reply.rest && list_all is_rest reply.rest
    && (reply.refused == length reply.listed + sum_by (λ rest. rest.count) reply.rest)
    && nat_le (reply.accepted + reply.refused) reply.lines

abbrev pub is_load : StoredLoad → Bool
is_load load =
    nat_le 1 load.number && nat_le load.number LAST_LOAD_NUMBER && (load.reply.number == load.number)
    && (length load.digest == 32) && list_all (λ byte. nat_lt byte 256) load.digest && is_reply load.reply

-- the keys of each list rise, so none stands twice
pub record KeysRise (office : Office) : Type 0 where
  pub records : IsTrue (rises record_rank office.records)
  pub observations : IsTrue (rises observation_rank office.observations)
  pub loads : IsTrue (rises load_rank office.loads)

-- a valid office
pub record IsOffice (office : Office) : Type 0 where
  pub keys_rise : KeysRise office
  pub records_fit : IsTrue (list_all (fits_records office) office.records)
  pub records_alone : IsTrue (list_all (is_alone office) office.records)
  pub few_sites : length (sites_of office.records) ≤ MOST_SITES
  pub observations_fit : IsTrue (list_all (fits_monitors office) office.observations)
  pub few_observations : length office.observations ≤ MOST_OBSERVATIONS
  pub loads_fit : IsTrue (list_all is_load office.loads)
  pub few_loads : length office.loads ≤ MOST_LOADS
