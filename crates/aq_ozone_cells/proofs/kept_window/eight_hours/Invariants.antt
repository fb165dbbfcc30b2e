use Rattle.std.proofs.Common.{◌≡◌, ℕ, ◌+◌, ◌<◌, None, length, get_or}
use Rattle.std.specs.Prelude.{IfSome}
use Rattle.aq_rules.specs.Ozone.SiteHour.{Cell}
use Rattle.aq_series.specs.Samples.{IsOzone}
use Rattle.aq_ozone_cells.specs.OzoneCells.{hour_in_profile}
use Rattle.aq_ozone_cells.proofs.kept_window.eight_hours.Given as goal

abbrev pub invariant-loop-i : goal.invariant-loop-i
invariant-loop-i l = record {
  many : length l.hours ≡ 8;
  hours : (k : ℕ) → k < l.i → get_or l.hours k None ≡ hour_in_profile l.days.days.entries l.site (l.first + k);
  ozone : (k : ℕ) → IfSome (get_or l.hours k None) (λ (cell : Cell). IsOzone cell.value);
}
