use Rattle.std.proofs.Common.{◌≡◌, ℕ, ◌<◌, None, List, length, get_or}
use Rattle.std.specs.Prelude.{IfSome}
use Rattle.aq_rules.specs.Ozone.SiteHour.{Cell, Sample, mean_of}
use Rattle.aq_series.specs.Samples.{IsOzone, IsTally}
use Rattle.aq_series.specs.declared.day_hours.HourState.{HourState}
use Rattle.aq_series.proofs.day_hours.cells.Given as goal

abbrev pub invariant-loop-i : goal.invariant-loop-i
invariant-loop-i l = record {
  many : length l.cells ≡ 192;
  values : (k : ℕ) (d : HourState) → k < l.i → (before : List Sample) → IsTally before (get_or l.hours k d).values → get_or l.cells k None ≡ mean_of before;
  range : (k : ℕ) → IfSome (get_or l.cells k None) (λ (cell : Cell). IsOzone cell.value);
}
