use Rattle.std.proofs.Common.{◌≡◌, ℕ, ◌+◌, ◌<◌, length, get_or}
use Rattle.aq_ozone_cells.specs.FilledDays.{average_among}
use Rattle.aq_ozone_cells.specs.KeptDays.{no_average}
use Rattle.aq_ozone_cells.proofs.filled_days.kept_averages.Given as goal

abbrev pub invariant-loop-i : goal.invariant-loop-i
invariant-loop-i l = record {
  many : length l.kept ≡ 17;
  each : (k : ℕ) → k < l.i → get_or l.kept k no_average ≡ average_among l.hours (7 + k);
}
