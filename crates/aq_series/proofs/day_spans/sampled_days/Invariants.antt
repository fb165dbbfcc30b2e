use Rattle.std.proofs.Common.{◌≡◌, ℕ, ◌+◌, ◌<◌, None, length, get_or}
use Rattle.std.specs.Prelude.{IfSome}
use Rattle.aq_base.specs.Calendar.{hour_number}
use Rattle.aq_rules.specs.Ozone.SiteHour.{Cell}
use Rattle.aq_series.specs.DayCells.{cell_at, IsParticle}
use Rattle.aq_series.proofs.day_spans.sampled_days.Given as goal

abbrev pub invariant-loop-i : goal.invariant-loop-i
invariant-loop-i g l = record {
  many : length l.days ≡ 92;
  days : (k : ℕ) → k < l.i → get_or l.days k None ≡ cell_at l.registry l.shelf l.monitor (hour_number (l.first + k) 0);
  range : (k : ℕ) → IfSome (get_or l.days k None) (λ (cell : Cell). IsParticle cell.value);
}
