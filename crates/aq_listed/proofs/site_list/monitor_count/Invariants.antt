use Rattle.std.proofs.Common.{◌≡◌, ◌+◌, length}
use Rattle.aq_series.specs.DayCells.{pocs_after}
use Rattle.aq_listed.proofs.site_list.monitor_count.Given as goal

abbrev pub invariant-loop-poc : goal.invariant-loop-poc
invariant-loop-poc l = l.count + length (pocs_after l.registry l.site l.pollutant l.after) ≡ length (pocs_after l.registry l.site l.pollutant 0)

abbrev pub decreases-loop-poc : goal.decreases-loop-poc
decreases-loop-poc l = length (pocs_after l.registry l.site l.pollutant l.after)
