use Rattle.std.proofs.Common.{◌≡◌, ℕ, ◌+◌, ◌-◌, ◌<◌, length, get_or, take, drop}
use Rattle.aq_rules.specs.Ozone.EightHour.{WindowRow, row_of}
use Rattle.aq_ozone.specs.DayHours.{cells_in}
use Rattle.aq_ozone.proofs.windows.windows_of.Given as goal

abbrev pub invariant-loop-i : goal.invariant-loop-i
invariant-loop-i l = record {
  many : length l.rows ≡ 17;
  rows : (d : WindowRow) (k : ℕ) → k < l.i → get_or l.rows k d ≡ row_of (cells_in (take (k + 8 - k) (drop k l.hours)));
}
