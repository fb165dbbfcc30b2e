use Rattle.std.proofs.Common.{◌≡◌, ◌+◌, drop}
use Rattle.aq_reports.specs.Daily.Ranked.{place_in}
use Rattle.aq_reports.proofs.daily.ranked.place_of.Given as goal

abbrev pub invariant-loop-other : goal.invariant-loop-other
invariant-loop-other l = record {
  place_is : l.place ≡ l.other-index;
  left : l.place + place_in l.row.value (drop l.other-index l.days) ≡ place_in l.row.value l.days;
}
