use Rattle.std.proofs.Common.{◌≤◌, drop, length}
use Rattle.aq_pages.specs.Ranked.{are_highest, ranked_from}
use Rattle.aq_pages.proofs.ranked.ten_highest.Given as goal

abbrev pub invariant-loop-place : goal.invariant-loop-place
invariant-loop-place l = record {
  within : l.place ≤ length l.lines;
  found_is : are_highest (ranked_from l.pollutant l.place (drop l.place l.lines)) l.days.items;
}

abbrev pub decreases-loop-place : goal.decreases-loop-place
decreases-loop-place l = l.place
