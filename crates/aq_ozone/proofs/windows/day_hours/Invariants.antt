use Rattle.std.proofs.Common.{◌≡◌, ℕ, ◌+◌, ◌*◌, ◌<◌, ◌≤◌, None, length, get_or}
use Rattle.std.specs.Prelude.{IfSome}
use Rattle.aq_rules.specs.Ozone.SiteHour.{Cell}
use Rattle.aq_series.specs.Samples.{IsOzone}
use Rattle.aq_ozone.specs.DayHours.{within_profile}
use Rattle.aq_ozone.proofs.windows.day_hours.Given as goal

abbrev pub invariant-loop-i : goal.invariant-loop-i
invariant-loop-i g l = record {
  many : length l.hours ≡ 24;
  hours : (k : ℕ) → k < l.i → get_or l.hours k None ≡ within_profile (g.S.OzoneSource.cell_at l.source) (l.first + k);
  ozone : (k : ℕ) → IfSome (get_or l.hours k None) (λ (cell : Cell). IsOzone cell.value);
  steps : l.steps ≤ l.fn.steps + 8 * g.S.OzoneSource.sites * l.i;
}
