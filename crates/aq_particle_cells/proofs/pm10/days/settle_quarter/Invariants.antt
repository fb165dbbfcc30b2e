use Rattle.std.proofs.Common.{◌≡◌, ◌+◌, ◌≤◌, ◌&&◌, ℕ, cond}
use Rattle.aq_base.specs.Site.{Site}
use Rattle.aq_rules.specs.Office.Monitors.{is_same_site}
use Rattle.aq_particle_cells.specs.Days.KeptDays.{cell_at, sample_at}
use Rattle.aq_particle_cells.specs.Pm10.Pm10Cells.{scheduled_sample, AreSamplesBy, AreTallies}
use Rattle.aq_particle_cells.proofs.DaysLemmas.TimeLemmas.{is_among}
use Rattle.aq_particle_cells.proofs.pm10.days.settle_quarter.Given as goal

abbrev pub invariant-loop-i : goal.invariant-loop-i
invariant-loop-i g l = record {
  tallies : AreTallies l.days.days.entries l.strata.strata.entries l.tallies;
  cells : (other : Site) (number : ℕ) → cell_at l.days.days.entries other number ≡ cell_at l.fn.days.days.entries other number;
  samples : (other : Site) (number : ℕ) → sample_at l.days.days.entries other number
      ≡ cond (is_same_site l.site other && is_among l.first l.i number) (scheduled_sample l.registry l.fn.days.days.entries l.site number) (sample_at l.fn.days.days.entries other number);
  steps : l.steps ≤ l.fn.steps + l.i;
  no_step : AreSamplesBy l.registry l.fn.days.days.entries l.site l.fn.quarter → l.steps ≤ l.fn.steps;
}
