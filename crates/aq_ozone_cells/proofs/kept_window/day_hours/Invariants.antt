use Rattle.std.proofs.Common.{◌≡◌, ℕ, ◌+◌, ◌<◌, None, length, get_or}
use Rattle.aq_ozone_cells.specs.KeptDays.{hour_of_two}
use Rattle.aq_ozone_cells.proofs.kept_window.day_hours.Given as goal

abbrev pub invariant-loop-i : goal.invariant-loop-i
invariant-loop-i l = record {
  many : length l.hours ≡ 24;
  hours : (k : ℕ) → k < l.i → get_or l.hours k None ≡ hour_of_two l.today l.tomorrow l.number (l.first + k);
}
