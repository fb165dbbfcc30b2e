use Rattle.std.proofs.Common.{◌≡◌, ◌+◌, ◌*◌, ◌<◌, length, set}
use Rattle.std.specs.List.{AllByRecursion}
use Rattle.aq_base.specs.Values.{HasValueInRange}
use Rattle.aq_shelf.specs.Standing.{observations_in}
use Rattle.aq_series.proofs.DaySpans.{AreOfParticles, Reads}
use Rattle.aq_series.proofs.DaySteps.{Within}
use Rattle.aq_series.proofs.Rising.{Rising}
use Rattle.aq_series.proofs.Spans.{Item, hour_of}
use Rattle.aq_series.proofs.day_spans.day_tallies.Given as goal

abbrev pub invariant-loop-item : goal.invariant-loop-item
invariant-loop-item g l = record {
  many : length l.days ≡ 92;
  place : l.at_hand.place < 92;
  end : l.at_hand.end ≡ l.start + 24 * l.at_hand.place + 24;
  start : l.start ≡ 24 * l.fn.first;
  ranges : AllByRecursion (λ (item : Item). HasValueInRange l.monitor.pollutant item.1) l.span;
  rising : Rising hour_of l.span;
  within : Within (l.start + 24 * l.at_hand.place) (24 * l.fn.first + 2208) l.span;
  reads : Reads l.registry l.monitor l.fn.first (observations_in l.monitor (24 * l.fn.first) 2208 l.shelf) l.span (set l.days l.at_hand.place l.at_hand.tally);
  values : AreOfParticles l.registry l.monitor l.fn.first (set l.days l.at_hand.place l.at_hand.tally);
}

abbrev pub decreases-loop-item : goal.decreases-loop-item
decreases-loop-item g l = length l.span
