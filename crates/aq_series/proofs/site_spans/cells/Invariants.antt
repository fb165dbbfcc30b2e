use Rattle.std.proofs.Common.{◌≡◌, ℕ, ◌<◌, None, List, length, get_or}
use Rattle.std.specs.Prelude.{IfSome}
use Rattle.std.specs.Option.{option_or}
use Rattle.aq_rules.specs.Ozone.SiteHour.{Cell}
use Rattle.aq_series.specs.DayCells.{mean_of, IsParticle, IsTallyOf}
use Rattle.aq_series.specs.declared.site_spans.DayState.{DayState}
use Rattle.aq_series.proofs.site_spans.cells.Given as goal

abbrev pub invariant-loop-i : goal.invariant-loop-i
invariant-loop-i l = record {
  many : length l.cells ≡ 92;
  days : (k : ℕ) (d : DayState) → k < l.i → (before : List Cell) → IsTallyOf before (get_or l.states k d).others → get_or l.cells k None ≡ option_or (get_or l.states k d).own (mean_of before);
  range : (k : ℕ) → IfSome (get_or l.cells k None) (λ (cell : Cell). IsParticle cell.value);
}
