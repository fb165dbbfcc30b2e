use Rattle.std.proofs.Common.{◌≡◌, ◌+◌, ◌*◌, ◌≤◌, length}
use Rattle.std.specs.List.{AllByRecursion}
use Rattle.aq_base.specs.Values.{HasValueInRange}
use Rattle.aq_base.specs.declared.monitor.Pollutant.TheVariants.{Ozone}
use Rattle.aq_series.proofs.DaySteps.{Reads, Within}
use Rattle.aq_series.proofs.Rising.{Rising}
use Rattle.aq_series.proofs.Spans.{Item, hour_of}
use Rattle.aq_series.proofs.day_hours.add_span.Given as goal

abbrev pub invariant-loop-hour : goal.invariant-loop-hour
invariant-loop-hour g l = record {
  can_next : (goal.iterator-loop-hour g).can_next l.hour-iterator;
  is_finite : (goal.iterator-loop-hour g).is_finite l.hour-iterator;
  many : length l.hours ≡ 192;
  first : l.first ≡ 24 * l.fn.day;
  ranges : AllByRecursion (λ (item : Item). HasValueInRange Ozone item.1) l.hour-iterator;
  rising : Rising hour_of l.hour-iterator;
  within : Within (24 * l.fn.day) (24 * l.fn.day + 192) l.hour-iterator;
  reads : Reads l.registry l.shelf l.monitor l.fn.day l.hour-iterator l.fn.hours l.hours;
  steps : l.steps ≤ l.fn.steps + 193;
}
