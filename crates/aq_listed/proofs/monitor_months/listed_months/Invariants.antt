use Rattle.std.proofs.Common.{◌≡◌, ◌++◌, length}
use Rattle.aq_rules.specs.Listed.Completeness.{listed_months}
use Rattle.aq_series.specs.DayCells.{pocs_after}
use Rattle.aq_series.specs.OfficeView.{office_of}
use Rattle.aq_listed.proofs.MonitorsByPoc.{months_left}
use Rattle.aq_listed.proofs.monitor_months.listed_months.Given as goal

abbrev pub invariant-loop-poc : goal.invariant-loop-poc
invariant-loop-poc g l =
    l.rows ++ months_left (office_of l.registry l.shelf) l.site l.pollutant l.year l.after
    ≡ listed_months (office_of l.registry l.shelf) l.site l.pollutant l.year

abbrev pub decreases-loop-poc : goal.decreases-loop-poc
decreases-loop-poc g l = length (pocs_after l.registry l.site l.pollutant l.after)
