-- How many of a month's due samples each monitor of a site and pollutant has (own). Eligibility and exclusion bear on nothing here.
use Rattle.std.specs.Prelude.{ℕ, ◌*◌, Bool, false, not, ◌&&◌, ◌==◌, if◌then◌else◌, List, [], ◌∷◌, length, map, filter, flat_map, count_by, codes, Option, Some, None, is_some, ℤ, pos}
use Rattle.std.specs.List.{list_any, range_with_len}
use Rattle.std.specs.Option.{option_map_or}
use Rattle.aq_base.specs.Calendar.{hour_number, day_of_hour, year_of, month_of}
use Rattle.aq_base.specs.Decimal.{half_up}
use Rattle.aq_base.specs.Site.{Site}
use Rattle.aq_base.specs.declared.monitor.Duration.{Duration}
use Rattle.aq_base.specs.declared.monitor.Duration.TheVariants.{Hour, Day}
use Rattle.aq_base.specs.declared.monitor.MonitorId.{MonitorId}
use Rattle.aq_base.specs.declared.monitor.Pollutant.{Pollutant}
use Rattle.aq_base.specs.declared.observation.ObsKey.{ObsKey}
use Rattle.aq_base.specs.declared.observation.Observation.{Observation}
use Rattle.aq_rules.specs.Lines.Canonical.{parameter_text}
use Rattle.aq_rules.specs.Office.Office.{Office, observation_at}
use Rattle.aq_rules.specs.Office.Schedule.{is_scheduled}
use Rattle.aq_rules.specs.Listed.Monitors.{RegisteredMonitor, monitors_of}
use Rattle.aq_rules.specs.Listed.Places.{standing_at, has_value, days_of_month}
use Rattle.aq_rules.specs.Shown.Sheet.{SheetCell, Sheet, head_of, count_cell, whole_cell, site_text}
use Rattle.aq_rules.specs.Shown.Sheet.SheetCell.{Text}

-- ---- due slots

abbrev pub hours_of_day : ℕ → List ℕ
hours_of_day day = range_with_len (hour_number day 0) 24

-- the hours of a month at which a sample is due: each hour of a monitor of hours, and hour 00 of each scheduled day of one of 24 hours
abbrev pub due_hours : Office → MonitorId → Duration → List ℕ → List ℕ
due_hours office monitor Hour days = flat_map hours_of_day days
due_hours office monitor Day days =
    map (λ day. hour_number day 0) (filter (is_scheduled office.records monitor.site monitor.pollutant) days)

-- ---- a month

-- how many samples are due, how many of these have a value or a null code, how many do not stand, and how many stand with a value at other hours of the month
pub record MonthCounts : Type 0 where
  pub due : ℕ
  pub valued : ℕ
  pub null : ℕ
  pub missing : ℕ
  pub extra : ℕ

abbrev pub is_valued_in : Option Observation → Bool
is_valued_in content = option_map_or (λ (c : Observation). is_some c.value) content false

abbrev pub is_null_in : Option Observation → Bool
is_null_in content = option_map_or (λ (c : Observation). is_some c.null) content false

-- what stands of the monitor at an hour
abbrev pub standing_in : Office → MonitorId → ℕ → Option Observation
standing_in office monitor hour = observation_at office (record { monitor = monitor; hour = hour })

abbrev pub is_in_month : ℕ → ℕ → (ObsKey × Observation) → Bool
is_in_month year month row =
    (year_of (day_of_hour row.0.hour) == year) && (month_of (day_of_hour row.0.hour) == month)

-- at an hour of the month at which nothing is due
abbrev pub is_extra : List ℕ → ℕ → ℕ → (ObsKey × Observation) → Bool
is_extra due year month row =
    has_value row && is_in_month year month row && not (list_any (λ hour. hour == row.0.hour) due)

abbrev pub counts_with : Office → MonitorId → ℕ → ℕ → List ℕ → MonthCounts
counts_with office monitor year month due = record {
  due = length due;
  valued = count_by (λ hour. is_valued_in (standing_in office monitor hour)) due;
  null = count_by (λ hour. is_null_in (standing_in office monitor hour)) due;
  missing = count_by (λ hour. not (is_some (standing_in office monitor hour))) due;
  extra = count_by (is_extra due year month) (standing_at office monitor);
}

unfoldable pub month_counts : Office → RegisteredMonitor → ℕ → ℕ → MonthCounts
month_counts office monitor year month =
    counts_with office monitor.id year month (due_hours office monitor.id monitor.duration (days_of_month year month))

-- the valued ones in percent of those due, to the nearest whole one; none where nothing is due
abbrev pub percent : MonthCounts → Option ℤ
percent counts = if counts.due == 0 then None else Some (half_up (pos (100 * counts.valued)) (pos counts.due))

-- ---- the sheet

pub record ListedMonth : Type 0 where
  pub poc : ℕ
  pub month : ℕ
  pub counts : MonthCounts

abbrev pub months_of : Office → ℕ → RegisteredMonitor → List ListedMonth
months_of office year monitor =
    map (λ month. record { poc = monitor.id.poc; month = month; counts = month_counts office monitor year month }) (range_with_len 1 12)

-- each registered monitor of the site and pollutant, by POC, and each month of the year
unfoldable pub listed_months : Office → Site → Pollutant → ℕ → List ListedMonth
listed_months office site pollutant year = flat_map (months_of office year) (monitors_of office site pollutant)

abbrev pub month_cells : ListedMonth → List SheetCell
month_cells row =
    count_cell row.poc ∷ count_cell row.month ∷ count_cell row.counts.due ∷ count_cell row.counts.valued ∷ count_cell row.counts.null
    ∷ count_cell row.counts.missing ∷ count_cell row.counts.extra ∷ whole_cell (percent row.counts) ∷ []

unfoldable pub completeness_sheet : Site → Pollutant → ℕ → List ListedMonth → Sheet
completeness_sheet site pollutant year rows = record {
  heads =
      head_of (codes "site") (Text (site_text site))
      ∷ head_of (codes "parameter") (Text (parameter_text pollutant))
      ∷ head_of (codes "year") (count_cell year)
      ∷ [];
  columns =
      codes "poc" ∷ codes "month" ∷ codes "due" ∷ codes "valued" ∷ codes "null" ∷ codes "missing" ∷ codes "extra" ∷ codes "percent" ∷ [];
  rows = map month_cells rows;
}

unfoldable pub completeness_answer : Office → Site → Pollutant → ℕ → Sheet
completeness_answer office site pollutant year = completeness_sheet site pollutant year (listed_months office site pollutant year)
