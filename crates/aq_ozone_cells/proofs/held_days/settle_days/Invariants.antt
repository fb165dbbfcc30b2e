use Rattle.std.proofs.Common.{◌+◌, ◌*◌, ◌≤◌}
use Rattle.aq_ozone_cells.specs.OzoneCells.{AreAveragesOfOzone, AreHeldAlready, AreSettled, AreYears}
use Rattle.aq_ozone_cells.proofs.held_days.settle_days.Given as goal

abbrev pub invariant-loop-i : goal.invariant-loop-i
invariant-loop-i g l = record {
  years : AreYears l.days.days.entries l.tallies;
  ozone : AreAveragesOfOzone l.days.days.entries;
  settled : AreSettled l.registry l.fn.days.days.entries l.days.days.entries l.site l.first l.i;
  steps : l.steps ≤ l.fn.steps + 2 * l.i;
  no_step : AreHeldAlready l.registry l.fn.days.days.entries l.site l.first l.count → l.steps ≤ l.fn.steps;
}
