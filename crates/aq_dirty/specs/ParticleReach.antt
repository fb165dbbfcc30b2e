-- Which particle cells read a changed row, as spans: those that read the days of a site and pollutant from a first one to a last one, or those that read the quarters from a first one to a last one.
use Rattle.std.specs.Prelude.{ℕ, ◌+◌, ◌-◌, ◌≤◌, ◌<◌, Bool, true, false, not, ◌&&◌, ◌||◌, ◌==◌, nat_le, is_none, if◌then◌else◌, Option, Some, None, List, ⊤}
use Rattle.std.specs.List.{list_any}
use Rattle.std.specs.Option.{option_map_or}
use Rattle.aq_base.specs.Calendar.{day_of_hour, hour_number, quarter_first, quarter_of, year_of}
use Rattle.aq_base.specs.Site.{Site}
use Rattle.aq_base.specs.declared.day.TheConstants.{LAST_DAY, LAST_HOUR, QUARTERS}
use Rattle.aq_base.specs.declared.monitor.Pollutant.{Pollutant}
use Rattle.aq_base.specs.declared.monitor.Pollutant.TheVariants.{Pm25, Pm10}
use Rattle.aq_base.specs.declared.office.OfficeRecord.{OfficeRecord}
use Rattle.aq_base.specs.declared.office.OfficeRecord.TheVariants.{Event, Schedule}
use Rattle.aq_base.specs.declared.office.OfficeKey.{OfficeKey}
use Rattle.aq_base.specs.declared.office.OfficeKey.TheVariants.{Monitor as MonitorKey, Primary as PrimaryKey, Schedule as ScheduleKey, Season as SeasonKey, Makeup as MakeupKey, Event as EventKey, Concurrence as ConcurrenceKey, Approved as ApprovedKey, Combined as CombinedKey}
use Rattle.aq_registry.specs.declared.changes.RecordChange.{RecordChange}
use Rattle.aq_rules.specs.Kept.Cells.{CellName as Cell, PmDayCell, StratumCell, QuarterCell, PmYearCell}
use Rattle.aq_rules.specs.Kept.Reach.{ChangedRow, from_to, last_day_designated, last_day_scheduled, may_count_at_once, reads}
use Rattle.aq_rules.specs.Office.Monitors.{is_same_site, is_same_pollutant}
use Rattle.aq_rules.specs.Office.Office.{key_of}
use Rattle.aq_rules.specs.Office.Questions.{record_of}
use Rattle.aq_rules.specs.Office.Schedule.{is_scheduled}
use Rattle.aq_rules.specs.Particles.Strata.{quarter_end, stratum_by}
use Rattle.aq_dirty.specs.declared.change.OfficeChange.{OfficeChange}
use Rattle.aq_dirty.specs.declared.change.OfficeChange.TheVariants.{Observation, Record}
use Rattle.aq_dirty.specs.declared.particle_reach.ParticleReach.{ParticleReach}
use Rattle.aq_dirty.specs.declared.particle_reach.ParticleReach.TheVariants.{Nothing, Days, Quarters}
use Rattle.aq_dirty.specs.Reach.{row_of, span_of}
use Rattle.aq_dirty.specs.Spans.{covers}

-- ---- what is marked

-- the kinds of cells that are marked
abbrev pub is_of_particles : Cell → Bool
is_of_particles (PmDayCell site pollutant day) = true
is_of_particles (StratumCell site first) = true
is_of_particles (QuarterCell site pollutant quarter) = true
is_of_particles (PmYearCell site year) = true
is_of_particles cell = false

-- whether a particle cell reads the row in an office with these records
abbrev pub reads_particle_row : List OfficeRecord → Option ChangedRow → Cell → Bool
reads_particle_row records None cell = false
reads_particle_row records (Some row) cell = is_of_particles cell && reads records cell row

-- whether a cell reads what a change changes
unfoldable pub marks_particle : List OfficeRecord → OfficeChange → Cell → Bool
marks_particle records change cell = reads_particle_row records (row_of change) cell

-- ---- the same as spans

-- whether a day lies in the stratum that starts on another one
abbrev pub is_in_stratum : List OfficeRecord → Site → ℕ → ℕ → Bool
is_in_stratum records site start day = option_map_or (λ first. start == first) (stratum_by records site day) false

-- whether a day begins a stratum, if the one of the day before starts on `start`
abbrev pub begins_stratum : List OfficeRecord → Site → ℕ → ℕ → Bool
begins_stratum records site start day =
    (quarter_first (quarter_of day) == day) || is_scheduled records site Pm10 day || (day == start + 6)

-- whether one of the days from the first to the last lies in it
unfoldable pub holds_one : List OfficeRecord → Site → ℕ → ℕ → ℕ → Bool
holds_one records site first last start = list_any (is_in_stratum records site start) (from_to first last)

abbrev pub covers_stratum : List OfficeRecord → Site → ℕ → ℕ → Site → ℕ → Bool
covers_stratum records site first last other start =
    is_same_site site other && holds_one records site first last start

-- PM2.5: the days, their quarters and their years
abbrev pub adds_pm25_days : Site → ℕ → ℕ → Cell → Bool
adds_pm25_days site first last (PmDayCell other Pm25 day) = covers other day (span_of site first last)
adds_pm25_days site first last (QuarterCell other Pm25 quarter) =
    covers other quarter (span_of site (quarter_of first) (quarter_of last))
adds_pm25_days site first last (PmYearCell other year) =
    covers other year (span_of site (year_of first) (year_of last))
adds_pm25_days site first last cell = false

-- PM10: the days, their quarters and their strata
abbrev pub adds_pm10_days : List OfficeRecord → Site → ℕ → ℕ → Cell → Bool
adds_pm10_days records site first last (PmDayCell other Pm10 day) = covers other day (span_of site first last)
adds_pm10_days records site first last (QuarterCell other Pm10 quarter) =
    covers other quarter (span_of site (quarter_of first) (quarter_of last))
adds_pm10_days records site first last (StratumCell other start) = covers_stratum records site first last other start
adds_pm10_days records site first last cell = false

-- the quarters, and for PM10 the strata of their days
abbrev pub adds_pm25_quarters : Site → ℕ → ℕ → Cell → Bool
adds_pm25_quarters site first last (QuarterCell other Pm25 quarter) = covers other quarter (span_of site first last)
adds_pm25_quarters site first last cell = false

abbrev pub adds_pm10_quarters : List OfficeRecord → Site → ℕ → ℕ → Cell → Bool
adds_pm10_quarters records site first last (QuarterCell other Pm10 quarter) =
    covers other quarter (span_of site first last)
adds_pm10_quarters records site first last (StratumCell other start) =
    covers_stratum records site (quarter_first first) (quarter_end last - 1) other start
adds_pm10_quarters records site first last cell = false

abbrev pub adds : List OfficeRecord → ParticleReach → Cell → Bool
adds records (Days site Pm25 first last) cell = adds_pm25_days site first last cell
adds records (Days site Pm10 first last) cell = adds_pm10_days records site first last cell
adds records (Quarters site Pm25 first last) cell = adds_pm25_quarters site first last cell
adds records (Quarters site Pm10 first last) cell = adds_pm10_quarters records site first last cell
adds records reach cell = false

-- there are days or quarters, and all are of the profile
abbrev pub IsReach : ParticleReach → Type 0
IsReach (Days site pollutant first last) = (first ≤ last) × (last ≤ LAST_DAY)
IsReach (Quarters site pollutant first last) = (first ≤ last) × (last < QUARTERS)
IsReach reach = ⊤

-- ---- the reach of a row

abbrev pub reach_of_hours : Site → Pollutant → ℕ → ℕ → ParticleReach
reach_of_hours site pollutant first last =
    if nat_le first last then Days site pollutant (day_of_hour first) (day_of_hour last) else Nothing

abbrev pub reach_of_quarters : Site → Pollutant → ℕ → ℕ → ParticleReach
reach_of_quarters site pollutant first last =
    if nat_le first last then Quarters site pollutant first last else Nothing

abbrev pub reach_of_event : Option OfficeRecord → ParticleReach
reach_of_event (Some (Event number site pollutant first last code)) = reach_of_hours site pollutant first last
reach_of_event row = Nothing

abbrev pub reach_of_key : List OfficeRecord → OfficeKey → Bool → ParticleReach
reach_of_key records (MonitorKey id) is_new =
    if is_new && not (may_count_at_once id.pollutant) then Nothing
    else reach_of_hours id.site id.pollutant 0 LAST_HOUR
reach_of_key records (PrimaryKey site pollutant from) is_new =
    reach_of_hours site pollutant (hour_number from 0) (hour_number (last_day_designated records site pollutant from) 23)
reach_of_key records (ScheduleKey site pollutant from) is_new =
    reach_of_quarters site pollutant (quarter_of from) (quarter_of (last_day_scheduled records site pollutant from))
reach_of_key records (MakeupKey site missed) is_new = reach_of_quarters site Pm25 (quarter_of missed) (quarter_of missed)
reach_of_key records (EventKey number) is_new = reach_of_event (record_of records (EventKey number))
reach_of_key records (ConcurrenceKey number) is_new = reach_of_event (record_of records (EventKey number))
reach_of_key records (SeasonKey site year) is_new = Nothing
reach_of_key records (ApprovedKey site day) is_new = Nothing
reach_of_key records (CombinedKey site pollutant) is_new = Nothing

abbrev pub reach_of_either : List OfficeRecord → Option OfficeRecord → Option OfficeRecord → ParticleReach
reach_of_either records old (Some row) = reach_of_key records (key_of row) (is_none old)
reach_of_either records (Some row) None = reach_of_key records (key_of row) false
reach_of_either records None None = Nothing

abbrev pub reach_of_record : List OfficeRecord → RecordChange → ParticleReach
reach_of_record records change = reach_of_either records change.old change.new

abbrev pub reach_of : List OfficeRecord → OfficeChange → ParticleReach
reach_of records (Observation key old new) = reach_of_hours key.monitor.site key.monitor.pollutant key.hour key.hour
reach_of records (Record change) = reach_of_record records change

-- where a record starts, if it is a schedule of the site and pollutant
abbrev pub schedule_start_in : Site → Pollutant → Option OfficeRecord → Option ℕ
schedule_start_in site pollutant (Some (Schedule other kind from interval anchor)) =
    if is_same_site other site && is_same_pollutant kind pollutant then Some from else None
schedule_start_in site pollutant row = None
