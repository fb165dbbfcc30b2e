use Rattle.std.proofs.Common.{◌+◌, ◌≤◌, length}
use Rattle.std.specs.Prelude.{sum_by}
use Rattle.aq_series.specs.OfficeView.{office_of}
use Rattle.aq_series.specs.DayCells.{pocs_after, pocs_of, steps_beside, IsOfParticles}
use Rattle.aq_series.proofs.SiteDay.{WalkedDay}
use Rattle.aq_series.proofs.days.mean_of_others.Given as goal

abbrev pub invariant-loop-poc : goal.invariant-loop-poc
invariant-loop-poc g l = record {
  values : IsOfParticles l.tally;
  walked : WalkedDay (office_of l.registry l.shelf) l.site l.pollutant l.day l.after l.tally;
  steps : l.steps + sum_by (steps_beside l.registry l.site l.pollutant l.primary) (pocs_after l.registry l.site l.pollutant l.after)
      ≤ l.initial.steps + sum_by (steps_beside l.registry l.site l.pollutant l.primary) (pocs_of l.registry l.site l.pollutant);
}

abbrev pub decreases-loop-poc : goal.decreases-loop-poc
decreases-loop-poc g l = length (pocs_after l.registry l.site l.pollutant l.after)
