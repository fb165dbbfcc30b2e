use Rattle.std.proofs.Common.{◌≡◌, ℕ, ◌+◌, ◌*◌, ◌<◌, None, length, get_or}
use Rattle.aq_ozone.proofs.day_span.hours_in.Given as goal

abbrev pub invariant-loop-i : goal.invariant-loop-i
invariant-loop-i l = record {
  many : length l.hours ≡ 24;
  first : l.first ≡ 24 * l.fn.day;
  each : (k : ℕ) → k < l.i → get_or l.hours k None ≡ get_or l.span (24 * l.fn.day + k) None;
}
