use Rattle.std.proofs.Common.{◌≡◌, ◌+◌, ◌*◌, ◌≤◌, ◌&&◌, ℕ, cond}
use Rattle.aq_base.specs.Site.{Site}
use Rattle.aq_rules.specs.Office.Monitors.{is_same_site}
use Rattle.aq_particle_cells.specs.Days.KeptDays.{cell_at, sample_at}
use Rattle.aq_particle_cells.specs.Pm25.Pm25Cells.{sample_from, AreTallies, IsCountedBy}
use Rattle.aq_particle_cells.proofs.DaysLemmas.TimeLemmas.{is_among}
use Rattle.aq_particle_cells.proofs.pm25.days.settle_quarter.Given as goal

abbrev pub invariant-loop-i : goal.invariant-loop-i
invariant-loop-i g l = record {
  tallies : AreTallies l.days.days.entries l.tallies;
  cells : (other : Site) (number : ℕ) → cell_at l.days.days.entries other number ≡ cell_at l.fn.days.days.entries other number;
  samples : (other : Site) (number : ℕ) → sample_at l.days.days.entries other number
      ≡ cond (is_same_site l.site other && is_among l.first l.i number) (sample_from l.registry l.fn.days.days.entries l.site number) (sample_at l.fn.days.days.entries other number);
  steps : l.steps ≤ l.fn.steps + 3 * l.i;
  no_step : IsCountedBy l.registry l.fn.days.days.entries l.site l.fn.quarter → l.steps ≤ l.fn.steps;
}
