-- Cells that are filled day by day from the rows of an office.
use Rattle.std.specs.Prelude.{◌⊎◌, ◌<◌, ◌≤◌, ◌+◌, ◌-◌, ◌*◌, ◌/◌, ◌&&◌, ◌||◌, ◌==◌, ℕ, Bool, false, nat_le, nat_lt, Option, Some, None, List, map, IfSome}
use Rattle.std.specs.List.{range_with_len}
use Rattle.aq_base.specs.Site.{Site}
use Rattle.aq_base.specs.declared.day.TheConstants.{LAST_DAY}
use Rattle.aq_base.specs.declared.monitor.Pollutant.TheVariants.{Ozone}
use Rattle.aq_base.specs.declared.observation.ObsKey.{ObsKey}
use Rattle.aq_base.specs.declared.observation.Observation.{Observation}
use Rattle.aq_rules.specs.Office.Monitors.{is_same_pollutant, is_same_site}
use Rattle.aq_rules.specs.Office.Office.{Office}
use Rattle.aq_rules.specs.Ozone.SiteHour.{Cell}
use Rattle.aq_series.specs.DayStates.{hour_at}
use Rattle.aq_ozone_cells.specs.FilledDays.{IsDayOf, IsEmptyDay}
use Rattle.aq_ozone_cells.specs.OzoneCells.{Cells}
use Rattle.aq_ozone_cells.specs.declared.filling.Week.{Week}

-- each day is the office's, or nothing is kept of it
unfoldable pub AreFilling : Office → Cells → Type 0
AreFilling office cells = (site : Site) (day : ℕ) → day ≤ LAST_DAY → IsDayOf office cells site day ⊎ IsEmptyDay cells site day

-- the days that are the office's stay so
unfoldable pub StayFilled : Office → Cells → Cells → Type 0
StayFilled office before after = (site : Site) (day : ℕ) → day ≤ LAST_DAY → IsDayOf office before site day → IsDayOf office after site day

-- the days of the week are the office's
unfoldable pub IsWeekOf : Office → Cells → Option Week → Type 0
IsWeekOf office cells week =
    IfSome week (λ (w : Week). (day : ℕ) → w.first ≤ day → day < w.first + 7 → day ≤ LAST_DAY → IsDayOf office cells w.site day)

-- both of these, while rows are walked through
pub record IsFilling (office : Office) (cells : Cells) (last : Option Week) : Type 0 where
  pub each : AreFilling office cells
  pub week : IsWeekOf office cells last

-- whether the week has the days of a site from the first to the last
abbrev pub is_within : Option Week → Site → ℕ → ℕ → Bool
is_within (Some week) site first last = is_same_site week.site site && nat_le week.first first && nat_lt (last - week.first) 7
is_within None site first last = false

-- whether an observation of ozone lies in the day or in the one after it, into which the day's averages reach
abbrev pub lies_at : Site → ℕ → ObsKey → Bool
lies_at site day key =
    is_same_pollutant key.monitor.pollutant Ozone && is_same_site key.monitor.site site
    && ((key.hour / 24 == day) || (key.hour / 24 == day + 1))

abbrev pub observes : Site → ℕ → ObsKey × Observation → Bool
observes site day row = lies_at site day row.0

-- what a site has for the hours that a day and its averages read, from its 00:00 on
unfoldable pub hours_from : Office → Site → ℕ → List (Option Cell)
hours_from office site day = map (hour_at office site) (range_with_len (24 * day) 31)
