-- Records of two sites, in the order of their keys, that the laws work out questions over.
use Rattle.std.specs.Prelude.{List, [], ◌∷◌, true, false}
use Rattle.aq_base.specs.Site.{Site}
use Rattle.aq_base.specs.declared.monitor.Pollutant.TheVariants.{Ozone, Pm25, Pm10}
use Rattle.aq_base.specs.declared.monitor.Duration.TheVariants.{Hour, Day}
use Rattle.aq_base.specs.declared.office.OfficeRecord.{OfficeRecord}
use Rattle.aq_base.specs.declared.office.OfficeRecord.TheVariants.{Monitor, Primary, Makeup, Event, Concurrence}
use Rattle.aq_rules.specs.Office.OfficeExamples.{fireworks, monitor_at}

abbrev pub coast : Site
coast = record { state = 6; county = 37; number = 1103 }

abbrev pub valley : Site
valley = record { state = 6; county = 59; number = 7 }

abbrev pub desert : Site
desert = record { state = 32; county = 3; number = 43 }

-- PM10 (81102) comes before PM2.5 (88101)

abbrev pub two_sites : List OfficeRecord
two_sites =
    Monitor (monitor_at coast Ozone 1) Hour true ∷ Monitor (monitor_at coast Ozone 4) Hour false
    ∷ Monitor (monitor_at coast Pm10 2) Day true ∷ Monitor (monitor_at coast Pm25 3) Day false
    ∷ Monitor (monitor_at valley Pm25 5) Hour true
    ∷ Primary coast Ozone 12418 4
    ∷ Makeup coast 12424 12426 ∷ Makeup coast 12442 12445 ∷ Makeup valley 12424 12427
    ∷ Event 12 coast Ozone 297648 297671 fireworks ∷ Event 15 valley Pm25 297658 297678 fireworks
    ∷ Concurrence 12 true
    ∷ []
