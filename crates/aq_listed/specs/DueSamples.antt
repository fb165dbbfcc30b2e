-- Which of a monitor's samples are due, and what is counted of those that stand in some hours.
use Rattle.std.specs.Prelude.{ℕ, Bool, true, not, ◌&&◌, ◌==◌, is_some, List}
use Rattle.aq_base.specs.Calendar.{day_of_hour, hour_of_day}
use Rattle.aq_base.specs.declared.monitor.Duration.{Duration}
use Rattle.aq_base.specs.declared.monitor.Duration.TheVariants.{Hour, Day}
use Rattle.aq_base.specs.declared.monitor.MonitorId.{MonitorId}
use Rattle.aq_base.specs.declared.observation.Observation.{Observation}
use Rattle.aq_base.specs.declared.office.OfficeRecord.{OfficeRecord}
use Rattle.aq_rules.specs.Office.Schedule.{is_scheduled}

-- whether a sample is due that starts at the hour: each one of a monitor of hours, and that of hour 00 of a scheduled day of one of days
abbrev pub is_due : List OfficeRecord → MonitorId → Duration → ℕ → Bool
is_due records monitor Hour hour = true
is_due records monitor Day hour =
    (hour_of_day hour == 0) && is_scheduled records monitor.site monitor.pollutant (day_of_hour hour)

abbrev pub is_valued : Observation → Bool
is_valued content = is_some content.value

abbrev pub is_null : Observation → Bool
is_null content = is_some content.null

abbrev pub stands : Observation → Bool
stands content = true

-- due, and of which the test holds
abbrev pub is_due_with : List OfficeRecord → MonitorId → Duration → (Observation → Bool) → (ℕ × Observation) → Bool
is_due_with records monitor duration test item = test item.1 && is_due records monitor duration item.0

-- with a value, where nothing is due
abbrev pub is_beside : List OfficeRecord → MonitorId → Duration → (ℕ × Observation) → Bool
is_beside records monitor duration item = is_some item.1.value && not (is_due records monitor duration item.0)
