use Rattle.std.proofs.Common.{◌≡◌, ℕ, ◌<◌, ◌≤◌, None, length, get_or}
use Rattle.aq_series.specs.DaySums.{AddsDay}
use Rattle.aq_series.specs.declared.site_spans.DayState.{DayState}
use Rattle.aq_series.proofs.site_spans.add_days.Given as goal

abbrev pub invariant-loop-i : goal.invariant-loop-i
invariant-loop-i l = record {
  many : length l.states ≡ 92;
  done : (k : ℕ) (d : DayState) → k < l.i → AddsDay l.poc (get_or l.cells k None) (get_or l.fn.states k d) (get_or l.states k d);
  rest : (k : ℕ) (d : DayState) → l.i ≤ k → get_or l.states k d ≡ get_or l.fn.states k d;
}
