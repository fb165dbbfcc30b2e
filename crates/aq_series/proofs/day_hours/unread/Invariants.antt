use Rattle.std.proofs.Common.{◌≡◌, ℕ, ◌/◌, ◌<◌, None, length, get_or}
use Rattle.aq_series.specs.DayStates.{IsUnread}
use Rattle.aq_series.specs.declared.day_hours.HourState.{HourState}
use Rattle.aq_series.proofs.day_hours.unread.Given as goal

abbrev pub invariant-loop-i : goal.invariant-loop-i
invariant-loop-i l = record {
  many : length l.hours ≡ 192;
  unread : (k : ℕ) (d : HourState) → k < 192 → IsUnread (get_or l.hours k d).primary (get_or l.hours k d);
  primaries : (k : ℕ) (d : HourState) → k < l.i → (get_or l.hours k d).primary ≡ get_or l.primaries (k / 24) None;
}
