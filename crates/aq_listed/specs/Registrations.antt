-- Monitors as their records register them.
use Rattle.std.specs.Prelude.{Option, List, option_map}
use Rattle.aq_base.specs.declared.monitor.MonitorId.{MonitorId}
use Rattle.aq_base.specs.declared.office.OfficeRecord.{OfficeRecord}
use Rattle.aq_rules.specs.Listed.Monitors.{RegisteredMonitor}
use Rattle.aq_rules.specs.Office.Questions.{Registered, registration_of}

abbrev pub registered_as : MonitorId → Registered → RegisteredMonitor
registered_as id registered = record { id = id; duration = registered.duration; eligible = registered.eligible }

-- the monitor of an identity, if it is registered
abbrev pub registered_monitor : List OfficeRecord → MonitorId → Option RegisteredMonitor
registered_monitor records id = option_map (registered_as id) (registration_of records id)
