-- The registered monitors of a site, with how many of their observations stand, and from when to when (own).
use Rattle.std.specs.Prelude.{ℕ, ◌-◌, Bool, ◌&&◌, if◌then◌else◌, List, [], ◌∷◌, length, map, flat_map, filter_map, slice_get, codes, Option, Some, None, option_map}
use Rattle.aq_base.specs.Calendar.{day_of_hour}
use Rattle.aq_base.specs.Site.{Site}
use Rattle.aq_base.specs.declared.monitor.Duration.{Duration}
use Rattle.aq_base.specs.declared.monitor.Duration.TheVariants.{Hour, Day}
use Rattle.aq_base.specs.declared.monitor.MonitorId.{MonitorId}
use Rattle.aq_base.specs.declared.monitor.Pollutant.{Pollutant}
use Rattle.aq_base.specs.declared.observation.ObsKey.{ObsKey}
use Rattle.aq_base.specs.declared.observation.Observation.{Observation}
use Rattle.aq_base.specs.declared.office.OfficeRecord.{OfficeRecord}
use Rattle.aq_base.specs.declared.office.OfficeRecord.TheVariants.{Monitor}
use Rattle.aq_rules.specs.Lines.Canonical.{parameter_text}
use Rattle.aq_rules.specs.Office.Office.{Office}
use Rattle.aq_rules.specs.Office.Monitors.{is_same_site, is_same_pollutant}
use Rattle.aq_rules.specs.Listed.Places.{POLLUTANTS, standing_at}
use Rattle.aq_rules.specs.Shown.Sheet.{SheetCell, Sheet, head_of, count_cell, site_text, day_text, truth_text}
use Rattle.aq_rules.specs.Shown.Sheet.SheetCell.{Text, Missing}

-- a monitor as it is registered
pub record RegisteredMonitor : Type 0 where
  pub id : MonitorId
  pub duration : Duration
  pub eligible : Bool

-- the monitor of the site and pollutant that the record registers
abbrev pub monitor_by : Site → Pollutant → OfficeRecord → Option RegisteredMonitor
monitor_by site pollutant (Monitor id duration eligible) =
    if is_same_site id.site site && is_same_pollutant id.pollutant pollutant
    then Some (record { id = id; duration = duration; eligible = eligible })
    else None
monitor_by site pollutant _ = None

-- by POC
unfoldable pub monitors_of : Office → Site → Pollutant → List RegisteredMonitor
monitors_of office site pollutant = filter_map (monitor_by site pollutant) office.records

-- a monitor, the number of its standing observations, with a value or a null code, and the days of the first and the last of them
pub record ListedMonitor : Type 0 where
  pub monitor : RegisteredMonitor
  pub observations : ℕ
  pub first : Option ℕ
  pub last : Option ℕ

abbrev pub day_of_row : ObsKey × Observation → ℕ
day_of_row row = day_of_hour row.0.hour

abbrev pub listed_with : RegisteredMonitor → List (ObsKey × Observation) → ListedMonitor
listed_with monitor rows = record {
  monitor = monitor;
  observations = length rows;
  first = option_map day_of_row (slice_get rows 0);
  last = option_map day_of_row (slice_get rows (length rows - 1));
}

abbrev pub listed_monitor : Office → RegisteredMonitor → ListedMonitor
listed_monitor office monitor = listed_with monitor (standing_at office monitor.id)

-- by parameter, in the order ozone, PM2.5, PM10, then by POC
unfoldable pub listed_monitors : Office → Site → List ListedMonitor
listed_monitors office site = map (listed_monitor office) (flat_map (monitors_of office site) POLLUTANTS)

-- 1 hour or 7 for 24 hours, as a line has it
abbrev pub duration_number : Duration → ℕ
duration_number Hour = 1
duration_number Day = 7

abbrev pub day_cell : Option ℕ → SheetCell
day_cell None = Missing
day_cell (Some day) = Text (day_text day)

abbrev pub monitor_cells : ListedMonitor → List SheetCell
monitor_cells row =
    Text (parameter_text row.monitor.id.pollutant) ∷ count_cell row.monitor.id.poc
    ∷ count_cell (duration_number row.monitor.duration) ∷ Text (truth_text row.monitor.eligible)
    ∷ count_cell row.observations ∷ day_cell row.first ∷ day_cell row.last ∷ []

unfoldable pub monitors_sheet : Site → List ListedMonitor → Sheet
monitors_sheet site rows = record {
  heads = head_of (codes "site") (Text (site_text site)) ∷ [];
  columns = codes "parameter" ∷ codes "poc" ∷ codes "duration" ∷ codes "eligible" ∷ codes "observations" ∷ codes "first" ∷ codes "last" ∷ [];
  rows = map monitor_cells rows;
}

unfoldable pub monitors_answer : Office → Site → Sheet
monitors_answer office site = monitors_sheet site (listed_monitors office site)
