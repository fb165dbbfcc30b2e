use Rattle.std.proofs.Common.{◌≡◌, ℕ, ◌+◌, ◌<◌, None, length, get_or}
use Rattle.aq_series.specs.DayStates.{primary_in}
use Rattle.aq_series.proofs.day_hours.primaries.Given as goal

abbrev pub invariant-loop-i : goal.invariant-loop-i
invariant-loop-i l = record {
  many : length l.primaries ≡ 8;
  primaries : (k : ℕ) → k < l.i → get_or l.primaries k None ≡ primary_in l.registry l.site (l.day + k);
}
