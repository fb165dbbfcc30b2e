use Rattle.std.proofs.Common.{◌≤◌, ◌-◌, length}
use Rattle.aq_shelf.specs.Places.{place_of}
use Rattle.aq_shelf.proofs.hours.halve.Given as goal

abbrev pub invariant-loop-low : goal.invariant-loop-low
invariant-loop-low l = record {
  high_in : l.high ≤ length l.items;
  low_in : l.low ≤ l.high;
  after : l.low ≤ place_of l.hour l.items;
  before : place_of l.hour l.items ≤ l.high;
}

abbrev pub decreases-loop-low : goal.decreases-loop-low
decreases-loop-low l = l.high - l.low
