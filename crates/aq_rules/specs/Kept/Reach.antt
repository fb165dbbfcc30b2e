-- Reach and cost: which cells a change of an office's rows reaches, and how many steps it may take to bring them up to date (own).
use Rattle.std.specs.Prelude.{ℕ, ◌+◌, ◌-◌, ◌*◌, max, Bool, true, false, not, ◌&&◌, ◌||◌, nat_le, nat_lt, if◌then◌else◌, Option, Some, None, is_none, List, [], ◌∷◌, ◌++◌, length, map, filter, flat_map, sum_by}
use Rattle.std.specs.List.{list_any, range_with_len}
use Rattle.std.specs.Option.{option_to_list}
use Rattle.aq_base.specs.Calendar.{day_of_hour, hour_number, year_of, quarter_of}
use Rattle.aq_base.specs.Site.{Site}
use Rattle.aq_base.specs.declared.day.TheConstants.{LAST_DAY, LAST_HOUR}
use Rattle.aq_base.specs.declared.monitor.Pollutant.{Pollutant}
use Rattle.aq_base.specs.declared.monitor.Pollutant.TheVariants.{Ozone, Pm25, Pm10}
use Rattle.aq_base.specs.declared.monitor.Duration.{Duration}
use Rattle.aq_base.specs.declared.monitor.Duration.TheVariants.{Hour, Day}
use Rattle.aq_base.specs.declared.observation.ObsKey.{ObsKey}
use Rattle.aq_base.specs.declared.office.OfficeRecord.{OfficeRecord}
use Rattle.aq_base.specs.declared.office.OfficeRecord.TheVariants.{Monitor, Primary, Schedule, Event}
use Rattle.aq_base.specs.declared.office.OfficeKey.{OfficeKey}
use Rattle.aq_base.specs.declared.office.OfficeKey.TheVariants.{Monitor as MonitorKey, Primary as PrimaryKey, Schedule as ScheduleKey, Season as SeasonKey, Makeup as MakeupKey, Event as EventKey, Concurrence as ConcurrenceKey, Approved as ApprovedKey, Combined as CombinedKey}
use Rattle.aq_rules.specs.Office.Office.{Office, StoredLoad, key_of, record_at, load_at}
use Rattle.aq_rules.specs.Office.Monitors.{is_same_site, is_same_pollutant}
use Rattle.aq_rules.specs.Office.Questions.{first_given, record_of}
use Rattle.aq_rules.specs.Office.Load.{OfficeChange, PutRecord, DropRecord, PutObservation, DropObservation, PutLoad, record_changes, observation_changes}
use Rattle.aq_rules.specs.Particles.Strata.{first_days_by, stratum_by}
use Rattle.aq_rules.specs.Kept.Cells.{CellName, HourCell, WindowCell, OzoneDayCell, OzoneYearCell, PmDayCell, StratumCell, QuarterCell, PmYearCell, is_same_cell}

-- ---- changed rows

-- a key whose rows in two offices differ, or which has a row in one of them alone; of a record's key also whether the old office has no row there
pub data ChangedRow : Type 0 where
  ChangedObservation : (key : ObsKey) → ChangedRow
  ChangedRecord : (key : OfficeKey) (is_new : Bool) → ChangedRow
  ChangedLoad : (number : ℕ) → ChangedRow

-- the row that a change of the old office's lists changes
abbrev pub changed_row : Office → OfficeChange → ChangedRow
changed_row old (PutRecord row) = ChangedRecord (key_of row) (is_none (record_at old (key_of row)))
changed_row old (DropRecord key) = ChangedRecord key false
changed_row old (PutObservation key content) = ChangedObservation key
changed_row old (DropObservation key) = ChangedObservation key
changed_row old (PutLoad load) = ChangedLoad load.number

-- the loads of one office that the other does not have; the row of a load that stands never changes
abbrev pub loads_not_in : Office → Office → List ChangedRow
loads_not_in other office =
    map (λ (load : StoredLoad). ChangedLoad load.number)
    (filter (λ (load : StoredLoad). is_none (load_at other load.number)) office.loads)

-- all rows that change from the old office to the new one
unfoldable pub changed_rows : Office → Office → List ChangedRow
changed_rows old new =
    map (changed_row old) (record_changes old new ++ observation_changes old new)
    ++ loads_not_in old new ++ loads_not_in new old

-- ---- which cells read an observation

-- the days, hours or quarters from the first to the last
abbrev pub from_to : ℕ → ℕ → List ℕ
from_to first last = range_with_len first (last + 1 - first)

-- an average reads the eight hours from its start on, so an hour is read by the averages that start at it or at most seven hours before it
abbrev pub windows_reading : ℕ → List ℕ
windows_reading hour = from_to (hour - 7) hour

-- the averages of a day start at 07:00 to 23:00, so the day reads the hours from its 07:00 to 06:00 of the next day: an hour is read by the day on which the hour seven before it lies, and the first seven hours of the profile are read by no day
abbrev pub days_reading : ℕ → List ℕ
days_reading hour = if nat_le 7 hour then day_of_hour (hour - 7) ∷ [] else []

-- ozone: the hour, its averages, its day, and the year of that day
abbrev pub ozone_cells_at : Site → ℕ → List CellName
ozone_cells_at site hour =
    HourCell site hour
    ∷ map (WindowCell site) (windows_reading hour)
    ++ map (OzoneDayCell site) (days_reading hour)
    ++ map (λ day. OzoneYearCell site (year_of day)) (days_reading hour)

-- PM2.5: the day, its quarter, and its year
abbrev pub pm25_cells_on : Site → ℕ → List CellName
pm25_cells_on site day =
    PmDayCell site Pm25 day ∷ QuarterCell site Pm25 (quarter_of day) ∷ PmYearCell site (year_of day) ∷ []

-- PM10: the day, its quarter, and the stratum that holds it by the schedules of these records
abbrev pub pm10_cells_on : List OfficeRecord → Site → ℕ → List CellName
pm10_cells_on records site day =
    PmDayCell site Pm10 day ∷ QuarterCell site Pm10 (quarter_of day)
    ∷ map (StratumCell site) (option_to_list (stratum_by records site day))

-- the cells that read an observation of the site and pollutant at an hour
abbrev pub cells_at : List OfficeRecord → Site → Pollutant → ℕ → List CellName
cells_at records site Ozone hour = ozone_cells_at site hour
cells_at records site Pm25 hour = pm25_cells_on site (day_of_hour hour)
cells_at records site Pm10 hour = pm10_cells_on records site (day_of_hour hour)

-- the cells that read an observation at one of these hours
abbrev pub cells_in : List OfficeRecord → Site → Pollutant → List ℕ → List CellName
cells_in records site pollutant hours = flat_map (cells_at records site pollutant) hours

-- ---- which cells read a record

-- the hours of the profile
unfoldable pub every_hour : List ℕ
every_hour = from_to 0 LAST_HOUR

-- the hours from 00:00 of the first day to 23:00 of the last
abbrev pub hours_of_days : ℕ → ℕ → List ℕ
hours_of_days first last = from_to (hour_number first 0) (hour_number last 23)

-- a new monitor has no observation and no designation yet, so nothing reads it; but of PM10 it may be the one with the lowest POC, and then no other monitor counts
abbrev pub may_count_at_once : Pollutant → Bool
may_count_at_once Pm10 = true
may_count_at_once pollutant = false

-- the start of the record, if it is a designation (a schedule) of the site and pollutant that starts after the day
abbrev pub designation_after : Site → Pollutant → ℕ → OfficeRecord → Option ℕ
designation_after site pollutant day (Primary other_site other_pollutant from poc) =
    if is_same_site other_site site && is_same_pollutant other_pollutant pollutant && nat_lt day from then Some from else None
designation_after site pollutant day _ = None

abbrev pub schedule_after : Site → Pollutant → ℕ → OfficeRecord → Option ℕ
schedule_after site pollutant day (Schedule other_site other_pollutant from interval anchor) =
    if is_same_site other_site site && is_same_pollutant other_pollutant pollutant && nat_lt day from then Some from else None
schedule_after site pollutant day _ = None

-- the day before the next start, and without one the last day of the profile
abbrev pub last_day_before : Option ℕ → ℕ
last_day_before (Some next) = next - 1
last_day_before None = LAST_DAY

-- the last day of the designation (the schedule) that starts on a day: the records rise by their starts, so the first that is found is the next
abbrev pub last_day_designated : List OfficeRecord → Site → Pollutant → ℕ → ℕ
last_day_designated records site pollutant from =
    last_day_before (first_given (designation_after site pollutant from) records)

abbrev pub last_day_scheduled : List OfficeRecord → Site → Pollutant → ℕ → ℕ
last_day_scheduled records site pollutant from =
    last_day_before (first_given (schedule_after site pollutant from) records)

-- a quarter, and for PM10 each of its strata
abbrev pub quarter_cells : List OfficeRecord → Site → Pollutant → ℕ → List CellName
quarter_cells records site Ozone quarter = []
quarter_cells records site Pm25 quarter = QuarterCell site Pm25 quarter ∷ []
quarter_cells records site Pm10 quarter =
    QuarterCell site Pm10 quarter ∷ map (StratumCell site) (first_days_by records site quarter)

-- the cells that read an observation in the span of the event, and none if no event stands
abbrev pub cells_in_span : List OfficeRecord → Option OfficeRecord → List CellName
cells_in_span records (Some (Event number site pollutant first last code)) = cells_in records site pollutant (from_to first last)
cells_in_span records _ = []

-- ---- the table

-- the cells that read a changed row in an office with these records:
--   an observation                  those of its hour
--   a monitor                       as for an observation at every hour of the profile; none if it is new and cannot count at once
--   a designation                   as for an observation at every hour of its days
--   a schedule                      the quarters that its days meet
--   a season, an approved day       its ozone year
--   a make-up                       the PM2.5 quarter of its missed day
--   an event, a concurrence         as for an observation at every hour of the event's span
--   a combination of sites, a load  none
unfoldable pub cells_reading : List OfficeRecord → ChangedRow → List CellName
cells_reading records (ChangedObservation key) = cells_at records key.monitor.site key.monitor.pollutant key.hour
cells_reading records (ChangedRecord (MonitorKey id) is_new) =
    if is_new && not (may_count_at_once id.pollutant) then [] else cells_in records id.site id.pollutant every_hour
cells_reading records (ChangedRecord (PrimaryKey site pollutant from) is_new) =
    cells_in records site pollutant (hours_of_days from (last_day_designated records site pollutant from))
cells_reading records (ChangedRecord (ScheduleKey site pollutant from) is_new) =
    flat_map (quarter_cells records site pollutant)
    (from_to (quarter_of from) (quarter_of (last_day_scheduled records site pollutant from)))
cells_reading records (ChangedRecord (SeasonKey site year) is_new) = OzoneYearCell site year ∷ []
cells_reading records (ChangedRecord (ApprovedKey site day) is_new) = OzoneYearCell site (year_of day) ∷ []
cells_reading records (ChangedRecord (MakeupKey site missed) is_new) = QuarterCell site Pm25 (quarter_of missed) ∷ []
cells_reading records (ChangedRecord (EventKey number) is_new) = cells_in_span records (record_of records (EventKey number))
cells_reading records (ChangedRecord (ConcurrenceKey number) is_new) = cells_in_span records (record_of records (EventKey number))
cells_reading records (ChangedRecord (CombinedKey site pollutant) is_new) = []
cells_reading records (ChangedLoad number) = []

-- whether a cell reads a changed row in an office with these records
unfoldable pub reads : List OfficeRecord → CellName → ChangedRow → Bool
reads records cell row = list_any (is_same_cell cell) (cells_reading records row)

-- ---- the reach of a change

-- the cells, each once
abbrev pub with_cell : CellName → List CellName → List CellName
with_cell cell cells = if list_any (is_same_cell cell) cells then cells else cell ∷ cells

unfoldable pub each_once : List CellName → List CellName
each_once [] = []
each_once (cell ∷ cells) = with_cell cell (each_once cells)

-- the cells that read one of these rows in the old office or in the new one
abbrev pub cells_reached : Office → Office → List ChangedRow → List CellName
cells_reached old new rows = each_once (flat_map (cells_reading old.records) rows ++ flat_map (cells_reading new.records) rows)

-- the cells in reach of the change from the old office to the new one
unfoldable pub reach : Office → Office → List CellName
reach old new = cells_reached old new (changed_rows old new)

-- ---- the cost of a change

-- a season or an approved day
abbrev pub is_of_season : ChangedRow → Bool
is_of_season (ChangedRecord (SeasonKey site year) is_new) = true
is_of_season (ChangedRecord (ApprovedKey site day) is_new) = true
is_of_season row = false

-- a schedule or a make-up
abbrev pub is_of_schedule : ChangedRow → Bool
is_of_schedule (ChangedRecord (ScheduleKey site pollutant from) is_new) = true
is_of_schedule (ChangedRecord (MakeupKey site missed) is_new) = true
is_of_schedule row = false

-- whether the cell reads one of these rows in the old office or in the new one
abbrev pub reads_one : Office → Office → CellName → List ChangedRow → Bool
reads_one old new cell rows = list_any (λ row. reads old.records cell row || reads new.records cell row) rows

-- the samples that a monitor may have for a day
abbrev pub samples_a_day : Duration → ℕ
samples_a_day Hour = 24
samples_a_day Day = 1

-- three look-ups for each sample of the record's monitor, if it is one of the site and pollutant
abbrev pub look_ups : Site → Pollutant → OfficeRecord → ℕ
look_ups site pollutant (Monitor id duration eligible) =
    if is_same_site id.site site && is_same_pollutant id.pollutant pollutant then 3 * samples_a_day duration else 0
look_ups site pollutant _ = 0

abbrev pub day_steps : List OfficeRecord → Site → Pollutant → ℕ
day_steps records site pollutant = 16 + sum_by (look_ups site pollutant) records

-- how many steps are enough to bring a cell up to date, if these rows changed:
--   an ozone hour          40: eight look-ups before the change, after it and in finding the hour; eight averages with two sums each
--   an average, a day       4: the sums of its day, and of its year
--   an ozone year         732: 366 days in two sums, if a season or an approved day of it changed, and else none
--   a particle day         16, and three look-ups for each sample (before, after and in finding it) of the monitors of the office that has more
--   a stratum              16: six days out and in, and its quarter
--   a quarter             800: its days in their sums, if a schedule or a make-up that it reads changed, and else none
--   a PM2.5 year            0: its days have paid for it
abbrev pub steps_of : Office → Office → List ChangedRow → CellName → ℕ
steps_of old new rows (HourCell site hour) = 40
steps_of old new rows (WindowCell site start) = 4
steps_of old new rows (OzoneDayCell site day) = 4
steps_of old new rows (OzoneYearCell site year) =
    if reads_one old new (OzoneYearCell site year) (filter is_of_season rows) then 732 else 0
steps_of old new rows (PmDayCell site pollutant day) = max (day_steps old.records site pollutant) (day_steps new.records site pollutant)
steps_of old new rows (StratumCell site first) = 16
steps_of old new rows (QuarterCell site pollutant quarter) =
    if reads_one old new (QuarterCell site pollutant quarter) (filter is_of_schedule rows) then 800 else 0
steps_of old new rows (PmYearCell site year) = 0

-- 16 for each changed row, and for each cell in reach what is enough for it
unfoldable pub cost_of : Office → Office → List ChangedRow → ℕ
cost_of old new rows = 16 * length rows + sum_by (steps_of old new rows) (cells_reached old new rows)

-- the most steps that the change from the old office to the new one may take
unfoldable pub cost : Office → Office → ℕ
cost old new = cost_of old new (changed_rows old new)
