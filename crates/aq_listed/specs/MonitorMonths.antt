-- What a monitor has of each month of a year.
use Rattle.std.specs.Prelude.{ℕ, Bool, List, []}
use Rattle.std.specs.Option.{option_map_or}
use Rattle.aq_base.specs.declared.monitor.Duration.{Duration}
use Rattle.aq_base.specs.declared.monitor.MonitorId.{MonitorId}
use Rattle.aq_rules.specs.Listed.Completeness.{ListedMonth, months_of}
use Rattle.aq_rules.specs.Listed.Monitors.{RegisteredMonitor}
use Rattle.aq_rules.specs.Office.Office.{Office}
use Rattle.aq_rules.specs.Office.Questions.{Registered, registration_of}

abbrev pub registered_as : MonitorId → Duration → Bool → RegisteredMonitor
registered_as monitor duration eligible = record { id = monitor; duration = duration; eligible = eligible }

-- none if it is not registered
abbrev pub months_at : Office → ℕ → MonitorId → List ListedMonth
months_at office year monitor =
    option_map_or (λ (r : Registered). months_of office year (registered_as monitor r.duration r.eligible)) (registration_of office.records monitor) []
