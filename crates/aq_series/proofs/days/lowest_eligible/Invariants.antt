use Rattle.std.proofs.Common.{◌≡◌, length}
use Rattle.std.specs.Prelude.{find}
use Rattle.aq_rules.specs.Office.Monitors.{is_eligible}
use Rattle.aq_series.specs.DayCells.{monitor_at, pocs_after, pocs_of}
use Rattle.aq_series.proofs.days.lowest_eligible.Given as goal

abbrev pub invariant-loop-poc : goal.invariant-loop-poc
invariant-loop-poc l = record {
  rest : find (λ poc. is_eligible l.registry (monitor_at l.site l.pollutant poc)) (pocs_after l.registry l.site l.pollutant l.after)
      ≡ find (λ poc. is_eligible l.registry (monitor_at l.site l.pollutant poc)) (pocs_of l.registry l.site l.pollutant);
}

abbrev pub decreases-loop-poc : goal.decreases-loop-poc
decreases-loop-poc l = length (pocs_after l.registry l.site l.pollutant l.after)
