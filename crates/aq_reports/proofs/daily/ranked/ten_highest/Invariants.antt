use Rattle.std.proofs.Common.{◌+◌, ◌≤◌, drop, length}
use Rattle.aq_reports.specs.Daily.Ranked.{ranked_from, IsHighest}
use Rattle.aq_reports.proofs.daily.ranked.ten_highest.Given as goal

abbrev pub invariant-loop-place : goal.invariant-loop-place
invariant-loop-place l = record {
  within : l.place ≤ length l.values;
  few : l.found.ranked + l.place ≤ length l.values;
  found_is : IsHighest (ranked_from (l.first + l.place) (drop l.place l.values)) l.found;
}

abbrev pub decreases-loop-place : goal.decreases-loop-place
decreases-loop-place l = l.place
