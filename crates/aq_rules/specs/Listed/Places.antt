-- What lists of observations are cut by: a monitor, a site and pollutant, a day, a month and a year (own).
use Rattle.std.specs.Prelude.{ℕ, Bool, ◌&&◌, ◌==◌, List, [], ◌∷◌, filter, is_some}
use Rattle.aq_base.specs.Calendar.{year_of, month_of, day_of_hour}
use Rattle.aq_base.specs.Quals.{has_code}
use Rattle.aq_base.specs.Site.{Site}
use Rattle.aq_base.specs.declared.code.Code.{Code}
use Rattle.aq_base.specs.declared.monitor.MonitorId.{MonitorId}
use Rattle.aq_base.specs.declared.monitor.Pollutant.{Pollutant}
use Rattle.aq_base.specs.declared.monitor.Pollutant.TheVariants.{Ozone, Pm25, Pm10}
use Rattle.aq_base.specs.declared.observation.ObsKey.{ObsKey}
use Rattle.aq_base.specs.declared.observation.Observation.{Observation}
use Rattle.aq_rules.specs.Office.Office.{Office}
use Rattle.aq_rules.specs.Office.Monitors.{is_same_site, is_same_pollutant, is_same_monitor}
use Rattle.aq_rules.specs.Ozone.OzoneYear.{days_of}

-- the order in which lists name the pollutants
abbrev pub POLLUTANTS : List Pollutant
POLLUTANTS = Ozone ∷ Pm25 ∷ Pm10 ∷ []

abbrev pub is_of_monitor : MonitorId → (ObsKey × Observation) → Bool
is_of_monitor monitor row = is_same_monitor row.0.monitor monitor

-- the monitor's standing observations, with a value or a null code, in rising order of their hours
unfoldable pub standing_at : Office → MonitorId → List (ObsKey × Observation)
standing_at office monitor = filter (is_of_monitor monitor) office.observations

abbrev pub is_of_series : Site → Pollutant → (ObsKey × Observation) → Bool
is_of_series site pollutant row =
    is_same_site row.0.monitor.site site && is_same_pollutant row.0.monitor.pollutant pollutant

-- the standing observations of a site and pollutant, by POC and hour
unfoldable pub standing_of : Office → Site → Pollutant → List (ObsKey × Observation)
standing_of office site pollutant = filter (is_of_series site pollutant) office.observations

abbrev pub is_on_day : ℕ → (ObsKey × Observation) → Bool
is_on_day day row = day_of_hour row.0.hour == day

abbrev pub is_in_year : ℕ → (ObsKey × Observation) → Bool
is_in_year year row = year_of (day_of_hour row.0.hour) == year

abbrev pub carries : Code → (ObsKey × Observation) → Bool
carries code row = has_code code row.1.quals

abbrev pub has_value : (ObsKey × Observation) → Bool
has_value row = is_some row.1.value

-- the days of a month of a year
unfoldable pub days_of_month : ℕ → ℕ → List ℕ
days_of_month year month = filter (λ day. month_of day == month) (days_of year)
