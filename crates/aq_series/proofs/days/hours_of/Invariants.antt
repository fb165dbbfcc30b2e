use Rattle.std.proofs.Common.{◌≡◌, ◌+◌, ◌≤◌}
use Rattle.std.specs.List.{range_with_len}
use Rattle.aq_series.specs.DayCells.{cells_in, IsOfParticles, IsTallyOf}
use Rattle.aq_series.proofs.days.hours_of.Given as goal

abbrev pub invariant-loop-count : goal.invariant-loop-count
invariant-loop-count g l = record {
  tally : IsTallyOf (cells_in l.registry l.shelf l.monitor (range_with_len l.first l.count)) l.tally;
  few : l.tally.count ≤ l.count;
  values : IsOfParticles l.tally;
  steps : l.steps ≡ l.fn.steps + l.count;
}
