use Rattle.std.proofs.Common.{◌≡◌, ℕ, ◌+◌, ◌<◌, length, get_or}
use Rattle.aq_base.specs.declared.monitor.Pollutant.TheVariants.{Pm25}
use Rattle.aq_rules.specs.Office.Designation.{primary_on}
use Rattle.aq_series.specs.DaySums.{IsNew}
use Rattle.aq_series.specs.declared.site_spans.DayState.{DayState}
use Rattle.aq_series.proofs.site_spans.new_states.Given as goal

abbrev pub invariant-loop-i : goal.invariant-loop-i
invariant-loop-i l = record {
  many : length l.states ≡ 92;
  primaries : (k : ℕ) (d : DayState) → k < l.i → (get_or l.states k d).primary ≡ primary_on l.registry l.site Pm25 (l.first + k);
  states : (k : ℕ) (d : DayState) → k < 92 → IsNew (get_or l.states k d);
}
