use Rattle.std.proofs.Common.{◌≡◌, ℕ, ◌<◌, None, List, length, get_or}
use Rattle.std.specs.Prelude.{IfSome}
use Rattle.aq_base.specs.declared.monitor.Duration.TheVariants.{Hour}
use Rattle.aq_rules.specs.Ozone.SiteHour.{Cell}
use Rattle.aq_rules.specs.Particles.ParticleDay.{day_cell}
use Rattle.aq_series.specs.DayCells.{IsParticle, IsTallyOf}
use Rattle.aq_series.specs.declared.day_tally.DayTally.{DayTally}
use Rattle.aq_series.proofs.day_spans.days_of.Given as goal

abbrev pub invariant-loop-i : goal.invariant-loop-i
invariant-loop-i l = record {
  many : length l.days ≡ 92;
  days : (k : ℕ) (d : DayTally) → k < l.i → (cells : List Cell) → IsTallyOf cells (get_or l.tallies k d) → get_or l.days k None ≡ day_cell l.pollutant Hour cells;
  range : (k : ℕ) → IfSome (get_or l.days k None) (λ (cell : Cell). IsParticle cell.value);
}
