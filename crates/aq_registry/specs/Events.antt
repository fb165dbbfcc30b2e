-- The events of a site and pollutant by their numbers.
use Rattle.std.specs.Prelude.{ℕ, ◌&&◌, nat_lt, if◌then◌else◌, Option, Some, None, List, filter}
use Rattle.aq_base.specs.Site.{Site}
use Rattle.aq_base.specs.declared.monitor.Pollutant.{Pollutant}
use Rattle.aq_base.specs.declared.office.OfficeRecord.{OfficeRecord}
use Rattle.aq_base.specs.declared.office.OfficeRecord.TheVariants.{Event}
use Rattle.aq_rules.specs.Office.Monitors.{is_same_site, is_same_pollutant}
use Rattle.aq_rules.specs.WhatIf.Assumed.{events_at}
use Rattle.aq_registry.specs.Registry.{office_with}

-- those above a number
abbrev pub events_above : List OfficeRecord → Site → Pollutant → ℕ → List ℕ
events_above records site pollutant after = filter (nat_lt after) (events_at (office_with records) site pollutant)

-- the number of the record, if it is such an event
abbrev pub event_above : Site → Pollutant → ℕ → OfficeRecord → Option ℕ
event_above site pollutant after (Event number other other_pollutant first last code) =
    if is_same_site other site && is_same_pollutant other_pollutant pollutant && nat_lt after number then Some number else None
event_above site pollutant after _ = None
