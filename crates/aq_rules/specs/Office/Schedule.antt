-- The days on which a site's sampling schedule asks for a sample (40 CFR 58.12). That schedules go by start dates and an anchor is (own).
use Rattle.std.specs.Prelude.{ℕ, ◌+◌, ◌-◌, ◌%◌, Bool, false, ◌&&◌, ◌==◌, nat_le, if◌then◌else◌, List, filter_map, Option, Some, None}
use Rattle.std.specs.Option.{option_map_or}
use Rattle.aq_base.specs.Site.{Site}
use Rattle.aq_base.specs.declared.monitor.Pollutant.{Pollutant}
use Rattle.aq_base.specs.declared.office.OfficeRecord.{OfficeRecord}
use Rattle.aq_base.specs.declared.office.OfficeRecord.TheVariants.{Schedule as ScheduleRecord}
use Rattle.aq_rules.specs.Lists.{latest}
use Rattle.aq_rules.specs.Office.Monitors.{is_same_site, is_same_pollutant}

-- from a day on, each day whose distance from the anchor is a multiple of the interval
pub record Schedule : Type 0 where
  pub from : ℕ
  pub interval : ℕ
  pub anchor : ℕ

-- the schedule of the site and pollutant that the record makes, if it begins by the day
abbrev pub schedule_by : Site → Pollutant → ℕ → OfficeRecord → Option Schedule
schedule_by site pollutant day (ScheduleRecord other_site other_pollutant from interval anchor) =
    if is_same_site other_site site && is_same_pollutant other_pollutant pollutant && nat_le from day
    then Some (record { from = from; interval = interval; anchor = anchor })
    else None
schedule_by site pollutant day _ = None

-- the days from one to the other, whichever comes first
abbrev pub distance : ℕ → ℕ → ℕ
distance a b = (a - b) + (b - a)

abbrev pub asks_for : ℕ → Schedule → Bool
asks_for day schedule = distance day schedule.anchor % schedule.interval == 0

-- whether the day is scheduled: by the schedule with the greatest start date not after it, and not if there is none
unfoldable pub is_scheduled : List OfficeRecord → Site → Pollutant → ℕ → Bool
is_scheduled records site pollutant day =
    option_map_or (asks_for day) (latest (λ (s : Schedule). s.from) (filter_map (schedule_by site pollutant day) records)) false
