use Rattle.std.proofs.Common.{◌≡◌, ℕ, ◌<◌, None, length, get_or}
use Rattle.std.specs.Prelude.{option_map}
use Rattle.aq_ozone_cells.specs.KeptDays.{kept_of}
use Rattle.aq_ozone_cells.proofs.filled_days.kept_hours.Given as goal

abbrev pub invariant-loop-i : goal.invariant-loop-i
invariant-loop-i l = record {
  many : length l.kept ≡ 24;
  each : (k : ℕ) → k < l.i → get_or l.kept k None ≡ option_map kept_of (get_or l.hours k None);
}
