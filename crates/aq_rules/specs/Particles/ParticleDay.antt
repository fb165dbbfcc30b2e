-- The PM2.5 and PM10 value of a monitor and of a site for one day, in tenths of a µg/m3 (40 CFR Part 50, Appendix N, 3.0, and Appendix K, 1.0 and 2.1).
use Rattle.std.specs.Prelude.{ℕ, ◌&&◌, ◌==◌, nat_le, min, if◌then◌else◌, List, length, map, filter_map, find, fold, slice_get, Option, Some, None, option_map, option_and_then, ℤ, pos, ◌+ℤ◌, ◌*ℤ◌, int_le, Bool}
use Rattle.std.specs.List.{list_any}
use Rattle.std.specs.Option.{option_or}
use Rattle.aq_base.specs.Calendar.{day_of_hour, hour_number}
use Rattle.aq_base.specs.Decimal.{truncated}
use Rattle.aq_base.specs.Site.{Site}
use Rattle.aq_base.specs.declared.monitor.Pollutant.{Pollutant}
use Rattle.aq_base.specs.declared.monitor.Pollutant.TheVariants.{Ozone, Pm25, Pm10}
use Rattle.aq_base.specs.declared.monitor.Duration.{Duration}
use Rattle.aq_base.specs.declared.monitor.Duration.TheVariants.{Hour, Day}
use Rattle.aq_base.specs.declared.monitor.MonitorId.{MonitorId}
use Rattle.aq_base.specs.declared.observation.ObsKey.{ObsKey}
use Rattle.aq_base.specs.declared.observation.Observation.{Observation}
use Rattle.aq_base.specs.declared.office.OfficeRecord.{OfficeRecord}
use Rattle.aq_base.specs.declared.office.OfficeRecord.TheVariants.{Monitor}
use Rattle.aq_base.specs.declared.standard.Standard.TheVariants.{Daily2006}
use Rattle.aq_rules.specs.Standards.{level_of}
use Rattle.aq_rules.specs.Office.Office.{Office, duration_at}
use Rattle.aq_rules.specs.Lists.{total}
use Rattle.aq_rules.specs.Office.Monitors.{is_same_site, is_same_pollutant, is_same_monitor, is_eligible}
use Rattle.aq_rules.specs.Office.Exclusion.{excluded}
use Rattle.aq_rules.specs.Office.Designation.{primary_on}
use Rattle.aq_rules.specs.Ozone.SiteHour.{Cell, Sample, chosen, is_of_poc}

-- ---- the day of a monitor

-- the hours of a day at which a sample starts: a sample of 24 hours is kept at hour 00 (own)
abbrev pub starts_on : Duration → ℕ → ℕ → Bool
starts_on Hour day hour = day_of_hour hour == day
starts_on Day day hour = hour == hour_number day 0

-- what an observation gives to the monitor's day: nothing without a value
abbrev pub cell_of : Office → MonitorId → Duration → ℕ → (ObsKey × Observation) → Option Cell
cell_of office monitor duration day entry =
    if is_same_monitor entry.0.monitor monitor && starts_on duration day entry.0.hour
    then option_map (λ value. record { value = value; excluded = excluded office.records entry.0 entry.1.quals }) entry.1.value
    else None

-- 18 hours or more make a day: their mean, truncated (own wording of 40 CFR Part 50, Appendix N, 3.0)
abbrev pub mean_of_hours : ℕ → ℤ → Option ℤ
mean_of_hours count sum = if nat_le 18 count then Some (truncated sum (pos count)) else None

-- the least mean of a day, in tenths, that is above the level of 35 µg/m3 once it is rounded: 35.5
abbrev pub LEAST_HIGH_MEAN : ℤ
LEAST_HIGH_MEAN = (pos 10 *ℤ level_of Daily2006) +ℤ pos 5

-- and for PM2.5 fewer also do if their sum over 24, zero for the missing ones, is 35.5 or more (own wording of 40 CFR Part 50, Appendix N, 3.0)
abbrev pub mean_or_high_sum : ℕ → ℤ → Option ℤ
mean_or_high_sum count sum =
    if nat_le 18 count then Some (truncated sum (pos count))
    else (if int_le (pos 24 *ℤ LEAST_HIGH_MEAN) sum then Some (truncated sum (pos 24)) else None)

abbrev pub day_value : Pollutant → Duration → List ℤ → Option ℤ
day_value pollutant Day values = slice_get values 0
day_value Pm10 Hour values = mean_of_hours (length values) (total values)
day_value pollutant Hour values = mean_or_high_sum (length values) (total values)

-- the day with these cells, excluded if one of them is
abbrev pub day_cell : Pollutant → Duration → List Cell → Option Cell
day_cell pollutant duration cells =
    option_map (λ value. record { value = value; excluded = list_any (λ (c : Cell). c.excluded) cells })
    (day_value pollutant duration (map (λ (c : Cell). c.value) cells))

-- the day that the monitor's observations make, if a sample lasts so long
abbrev pub day_of_samples : Office → MonitorId → Duration → ℕ → Option Cell
day_of_samples office monitor duration day =
    day_cell monitor.pollutant duration (filter_map (cell_of office monitor duration day) office.observations)

-- the day of a registered monitor that is eligible, by how long its samples last; no other monitor has one (own)
unfoldable pub monitor_day : Office → MonitorId → ℕ → Option Cell
monitor_day office monitor day =
    if is_eligible office.records monitor
    then option_and_then (λ duration. day_of_samples office monitor duration day) (duration_at office monitor)
    else None

-- ---- the day of a site

-- the POC of the eligible monitor of the site and pollutant that the record registers
abbrev pub eligible_poc : Site → Pollutant → OfficeRecord → Option ℕ
eligible_poc site pollutant (Monitor id duration eligible) =
    if is_same_site id.site site && is_same_pollutant id.pollutant pollutant && eligible then Some id.poc else None
eligible_poc site pollutant _ = None

unfoldable pub eligible_pocs : List OfficeRecord → Site → Pollutant → List ℕ
eligible_pocs records site pollutant = filter_map (eligible_poc site pollutant) records

abbrev pub sample_on : Office → Site → Pollutant → ℕ → ℕ → Option Sample
sample_on office site pollutant day poc =
    option_map (λ cell. record { poc = poc; cell = cell })
    (monitor_day office (record { site = site; pollutant = pollutant; poc = poc }) day)

-- what the eligible monitors of the site have for the day
abbrev pub samples_on : Office → Site → Pollutant → ℕ → List Sample
samples_on office site pollutant day =
    filter_map (sample_on office site pollutant day) (eligible_pocs office.records site pollutant)

-- the lowest POC, if there is one
abbrev pub lower_poc : Option ℕ → ℕ → Option ℕ
lower_poc None poc = Some poc
lower_poc (Some other) poc = Some (min poc other)

abbrev pub lowest_poc : List ℕ → Option ℕ
lowest_poc pocs = fold lower_poc None pocs

-- for PM10 the primary alone counts; without one, the eligible monitor with the lowest POC, whether or not it has a sample (own)
abbrev pub counting_poc : Office → Site → ℕ → Option ℕ
counting_poc office site day = option_or (primary_on office.records site Pm10 day) (lowest_poc (eligible_pocs office.records site Pm10))

-- PM2.5: the primary's day if it has one, else the truncated mean of the others' (own). PM10: that of the one monitor that counts
unfoldable pub site_day : Office → Site → Pollutant → ℕ → Option Cell
site_day office site Ozone day = None
site_day office site Pm25 day =
    chosen (find (is_of_poc (primary_on office.records site Pm25 day)) (samples_on office site Pm25 day)) (samples_on office site Pm25 day)
site_day office site Pm10 day =
    option_map (λ (s : Sample). s.cell) (find (is_of_poc (counting_poc office site day)) (samples_on office site Pm10 day))

-- the day's value, unless it is excluded
abbrev pub unless_excluded : Cell → Option ℤ
unless_excluded cell = if cell.excluded then None else Some cell.value

abbrev pub net_day : Office → Site → Pollutant → ℕ → Option ℤ
net_day office site pollutant day = option_and_then unless_excluded (site_day office site pollutant day)
