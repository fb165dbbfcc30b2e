use Rattle.std.proofs.Common.{◌≡◌, ℕ, ◌+◌, ◌<◌, length, get_or}
use Rattle.aq_rules.specs.Ozone.EightHour.{WindowRow}
use Rattle.aq_ozone_cells.specs.KeptDays.{average_in}
use Rattle.aq_ozone_cells.specs.OzoneCells.{row_with}
use Rattle.aq_ozone_cells.proofs.held_days.averages_of.Given as goal

abbrev pub invariant-loop-i : goal.invariant-loop-i
invariant-loop-i l = record {
  many : length l.rows ≡ 17;
  rows : (d : WindowRow) (k : ℕ) → k < l.i → get_or l.rows k d ≡ row_with (average_in l.cells (l.first + k));
}
