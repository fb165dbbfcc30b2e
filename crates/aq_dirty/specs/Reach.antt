-- Which ozone cells read a changed row, as spans: those that read the hours of a site from a first one to a last one, or the year of a site.
use Rattle.std.specs.Prelude.{ℕ, ◌-◌, ◌≤◌, Bool, true, false, ◌&&◌, nat_le, is_none, if◌then◌else◌, Option, Some, None, List, ⊤}
use Rattle.aq_base.specs.Calendar.{day_of_hour, hour_number, year_of}
use Rattle.aq_base.specs.Site.{Site}
use Rattle.aq_base.specs.declared.day.TheConstants.{LAST_HOUR}
use Rattle.aq_base.specs.declared.monitor.Pollutant.{Pollutant}
use Rattle.aq_base.specs.declared.monitor.Pollutant.TheVariants.{Ozone}
use Rattle.aq_base.specs.declared.office.OfficeRecord.{OfficeRecord}
use Rattle.aq_base.specs.declared.office.OfficeRecord.TheVariants.{Primary, Event}
use Rattle.aq_base.specs.declared.office.OfficeKey.{OfficeKey}
use Rattle.aq_base.specs.declared.office.OfficeKey.TheVariants.{Monitor as MonitorKey, Primary as PrimaryKey, Schedule as ScheduleKey, Season as SeasonKey, Makeup as MakeupKey, Event as EventKey, Concurrence as ConcurrenceKey, Approved as ApprovedKey, Combined as CombinedKey}
use Rattle.aq_registry.specs.declared.changes.RecordChange.{RecordChange}
use Rattle.aq_rules.specs.Kept.Cells.{CellName as Cell, HourCell, WindowCell, OzoneDayCell, OzoneYearCell}
use Rattle.aq_rules.specs.Kept.Reach.{ChangedRow, ChangedObservation, ChangedRecord, last_day_designated, reads}
use Rattle.aq_rules.specs.Office.Monitors.{is_same_site, is_same_pollutant}
use Rattle.aq_rules.specs.Office.Office.{key_of}
use Rattle.aq_rules.specs.Office.Questions.{record_of}
use Rattle.aq_dirty.specs.declared.change.OfficeChange.{OfficeChange}
use Rattle.aq_dirty.specs.declared.change.OfficeChange.TheVariants.{Observation, Record}
use Rattle.aq_dirty.specs.declared.reach.Reach.{Reach}
use Rattle.aq_dirty.specs.declared.reach.Reach.TheVariants.{Nothing, Hours, Year}
use Rattle.aq_dirty.specs.declared.spans.Span.{Span}
use Rattle.aq_dirty.specs.Spans.{covers}

-- ---- what is marked

-- the row that a change of a record changes, if there is one
abbrev pub record_row : Option OfficeRecord → Option OfficeRecord → Option ChangedRow
record_row old (Some row) = Some (ChangedRecord (key_of row) (is_none old))
record_row (Some row) None = Some (ChangedRecord (key_of row) false)
record_row None None = None

-- the row that a change changes
abbrev pub row_of : OfficeChange → Option ChangedRow
row_of (Observation key old new) = Some (ChangedObservation key)
row_of (Record change) = record_row change.old change.new

-- the kinds of cells that are marked
abbrev pub is_of_ozone : Cell → Bool
is_of_ozone (HourCell site hour) = true
is_of_ozone (WindowCell site start) = true
is_of_ozone (OzoneDayCell site day) = true
is_of_ozone (OzoneYearCell site year) = true
is_of_ozone cell = false

-- whether a cell of ozone reads the row in an office with these records
abbrev pub reads_row : List OfficeRecord → Option ChangedRow → Cell → Bool
reads_row records None cell = false
reads_row records (Some row) cell = is_of_ozone cell && reads records cell row

-- whether a cell reads what a change changes
unfoldable pub marks : List OfficeRecord → OfficeChange → Cell → Bool
marks records change cell = reads_row records (row_of change) cell

-- ---- the same as spans

abbrev pub span_of : Site → ℕ → ℕ → Span
span_of site first last = record { site = site; first = first; last = last }

-- the day that reads an hour, if the hour is not one of the first seven of the profile
abbrev pub day_reading : ℕ → ℕ
day_reading hour = day_of_hour (hour - 7)

-- the hours; the averages, of which the first starts seven hours before the first hour; the days, and their years
abbrev pub adds_hours : Site → ℕ → ℕ → Cell → Bool
adds_hours site first last (HourCell other hour) = covers other hour (span_of site first last)
adds_hours site first last (WindowCell other start) = covers other start (span_of site (first - 7) last)
adds_hours site first last (OzoneDayCell other day) =
    nat_le 7 last && covers other day (span_of site (day_reading first) (day_reading last))
adds_hours site first last (OzoneYearCell other year) =
    nat_le 7 last && covers other year (span_of site (year_of (day_reading first)) (year_of (day_reading last)))
adds_hours site first last cell = false

abbrev pub adds_year : Site → ℕ → Cell → Bool
adds_year site year (OzoneYearCell other number) = covers other number (span_of site year year)
adds_year site year cell = false

abbrev pub adds : Reach → Cell → Bool
adds Nothing cell = false
adds (Hours site first last) cell = adds_hours site first last cell
adds (Year site year) cell = adds_year site year cell

-- there are hours, and all are of the profile
abbrev pub IsReach : Reach → Type 0
IsReach (Hours site first last) = (first ≤ last) × (last ≤ LAST_HOUR)
IsReach reach = ⊤

-- ---- the reach of a row

abbrev pub reach_of_hours : Pollutant → Site → ℕ → ℕ → Reach
reach_of_hours Ozone site first last = if nat_le first last then Hours site first last else Nothing
reach_of_hours pollutant site first last = Nothing

abbrev pub reach_of_event : Option OfficeRecord → Reach
reach_of_event (Some (Event number site pollutant first last code)) = reach_of_hours pollutant site first last
reach_of_event row = Nothing

abbrev pub reach_of_key : List OfficeRecord → OfficeKey → Bool → Reach
reach_of_key records (MonitorKey id) is_new = if is_new then Nothing else reach_of_hours id.pollutant id.site 0 LAST_HOUR
reach_of_key records (PrimaryKey site pollutant from) is_new =
    reach_of_hours pollutant site (hour_number from 0) (hour_number (last_day_designated records site pollutant from) 23)
reach_of_key records (SeasonKey site year) is_new = Year site year
reach_of_key records (ApprovedKey site day) is_new = Year site (year_of day)
reach_of_key records (EventKey number) is_new = reach_of_event (record_of records (EventKey number))
reach_of_key records (ConcurrenceKey number) is_new = reach_of_event (record_of records (EventKey number))
reach_of_key records (ScheduleKey site pollutant from) is_new = Nothing
reach_of_key records (MakeupKey site missed) is_new = Nothing
reach_of_key records (CombinedKey site pollutant) is_new = Nothing

abbrev pub reach_of_either : List OfficeRecord → Option OfficeRecord → Option OfficeRecord → Reach
reach_of_either records old (Some row) = reach_of_key records (key_of row) (is_none old)
reach_of_either records (Some row) None = reach_of_key records (key_of row) false
reach_of_either records None None = Nothing

abbrev pub reach_of_record : List OfficeRecord → RecordChange → Reach
reach_of_record records change = reach_of_either records change.old change.new

abbrev pub reach_of : List OfficeRecord → OfficeChange → Reach
reach_of records (Observation key old new) = reach_of_hours key.monitor.pollutant key.monitor.site key.hour key.hour
reach_of records (Record change) = reach_of_record records change

-- where a record starts, if it is a designation of the site and pollutant
abbrev pub start_in : Site → Pollutant → Option OfficeRecord → Option ℕ
start_in site pollutant (Some (Primary other kind from poc)) =
    if is_same_site other site && is_same_pollutant kind pollutant then Some from else None
start_in site pollutant row = None
