use Rattle.std.proofs.Common.{◌≡◌, length, map}
use Rattle.aq_rules.specs.Listed.Monitors.{listed_monitor}
use Rattle.aq_series.specs.DayCells.{pocs_after}
use Rattle.aq_series.specs.OfficeView.{office_of}
use Rattle.aq_listed.specs.LastDay.{later, latest}
use Rattle.aq_listed.proofs.RegisteredMonitors.{monitors_above}
use Rattle.aq_listed.proofs.last_days.last_day_at.Given as goal

abbrev pub invariant-loop-poc : goal.invariant-loop-poc
invariant-loop-poc g l =
    later l.day (latest (map (listed_monitor (office_of l.registry l.shelf)) (monitors_above l.registry l.site l.pollutant l.after)))
    ≡ latest (map (listed_monitor (office_of l.registry l.shelf)) (monitors_above l.registry l.site l.pollutant 0))

abbrev pub decreases-loop-poc : goal.decreases-loop-poc
decreases-loop-poc g l = length (pocs_after l.registry l.site l.pollutant l.after)
