use Rattle.std.proofs.Common.{◌≡◌, ℕ, ◌+◌, ◌*◌, ◌<◌, ◌≤◌, List, ◌++◌, replicate, set, refl, arith, sym, ap, subst, ◌∙◌}
use Rattle.std.specs.List.{AllByRecursion}
use Rattle.std.specs.Option.{option_to_list}
use Rattle.std.proofs.lemmas.List.{get_or-replicate}
use Rattle.aq_base.specs.Values.{HasValueInRange}
use Rattle.aq_shelf.specs.Standing.{observations_in}
use Rattle.aq_series.specs.DayCells.{IsOfParticles, IsTallyOf}
use Rattle.aq_series.specs.declared.day_tally.DayTally.{DayTally}
use Rattle.aq_series.proofs.DaySpans.{at-hour, particles-next, place-has_room, put-over, read-start, reads-done, reads-next, within-on, AreOfParticles, Read, Reads}
use Rattle.aq_series.proofs.DaySteps.{span-within, Within}
use Rattle.aq_series.proofs.Spans.{Item, span-rises}
use Rattle.aq_series.proofs.day_spans.day_tallies.Goals as goal

pub loop-item-init : goal.loop-item-init
loop-item-init g c =
    let monitor = c.args.monitor.now in
    let rows = c.args.shelf.now in
    let from = 24 * c.args.first in
    let rising = c.span-span.ensures.shelf.rising in
    let first : 24 * c.from-start.result ≡ from = omega (arith, c.from-start.ensures, c.number.ensures.value) in
    let low : from ≡ 24 * c.from-start.result + 24 * 0 = omega (arith, first) in
    let items : c.span-span.result ≡ observations_in monitor from 2208 rows =
    c.span-span.ensures.observations
    ∙ ap (λ (n : ℕ). observations_in monitor n 2208 rows) (c.new.ensures ∙ first)
    in
    record {
      many = refl;
      place = omega arith;
      end = omega arith;
      start = first;
      ranges = c.span-span.ensures.ranges;
      rising = rw items (span-rises monitor from 2208 rows rising);
      within =
          subst (λ (is : List Item). Within (24 * c.from-start.result + 24 * 0) (from + 2208) is) (sym items)
          (subst (λ (low : ℕ). Within low (from + 2208) (observations_in monitor from 2208 rows)) low (span-within monitor from 2208 rows));
      reads =
          subst (λ (is : List Item). Reads c.args.registry.now monitor c.args.first (observations_in monitor from 2208 rows) is (replicate 92 c.new-days.result)) (sym items)
          (λ k d within. subst (λ (t : DayTally). Read c.args.registry.now monitor c.args.first k (observations_in monitor from 2208 rows) (observations_in monitor from 2208 rows) t) (sym (get_or-replicate 92 k c.new-days.result d within))
          (read-start c.args.registry.now monitor c.args.first k (observations_in monitor from 2208 rows) c.new-days.result c.new-days.ensures.tally c.new-days.ensures.count));
      values = λ k d within. subst IsOfParticles (sym (get_or-replicate 92 k c.new-days.result d within)) c.new-days.ensures.values;
    }

pub add-requires-clause-values : goal.add-requires-clause-values
add-requires-clause-values g c =
    let hour = at-hour c.args.registry.now c.args.shelf.now c.args.monitor.now c.args.first (24 * c.from-start.result) c.loop-item.at_hand.place c.turn.new.self.place c.number-in-Some.result c.loop-item.days c.turn.new.days c.loop-item.at_hand.tally c.turn.new.self.tally c.in-Some.item.now c.next_standing.new.self _ c.in-Some.ensures.some c.loop-item.invariant.start c.loop-item.invariant.many (c.loop-item.invariant.rising, c.loop-item.invariant.within, c.loop-item.invariant.reads) c.number-in-Some.ensures.value c.turn.ensures.many c.turn.ensures.place c.turn.ensures.same in
    subst IsOfParticles (hour.hand c.turn.new.self.tally) (c.loop-item.invariant.values c.turn.new.self.place c.turn.new.self.tally hour.small)

pub add-requires-clause-count : goal.add-requires-clause-count
add-requires-clause-count g c =
    let hour = at-hour c.args.registry.now c.args.shelf.now c.args.monitor.now c.args.first (24 * c.from-start.result) c.loop-item.at_hand.place c.turn.new.self.place c.number-in-Some.result c.loop-item.days c.turn.new.days c.loop-item.at_hand.tally c.turn.new.self.tally c.in-Some.item.now c.next_standing.new.self _ c.in-Some.ensures.some c.loop-item.invariant.start c.loop-item.invariant.many (c.loop-item.invariant.rising, c.loop-item.invariant.within, c.loop-item.invariant.reads) c.number-in-Some.ensures.value c.turn.ensures.many c.turn.ensures.place c.turn.ensures.same in
    subst (λ (t : DayTally). t.count < 24) (hour.hand c.turn.new.self.tally)
    (place-has_room c.args.registry.now c.args.monitor.now c.args.first c.in-Some.item.now c.next_standing.new.self _ hour.stands.0.0 _ c.turn.new.self.place hour.at hour.many hour.small hour.stands.2 c.turn.new.self.tally)

pub loop-item-preserved : goal.loop-item-preserved
loop-item-preserved g c =
    let hour = at-hour c.args.registry.now c.args.shelf.now c.args.monitor.now c.args.first (24 * c.from-start.result) c.loop-item.at_hand.place c.turn.new.self.place c.number-in-Some.result c.loop-item.days c.turn.new.days c.loop-item.at_hand.tally c.turn.new.self.tally c.in-Some.item.now c.next_standing.new.self _ c.in-Some.ensures.some c.loop-item.invariant.start c.loop-item.invariant.many (c.loop-item.invariant.rising, c.loop-item.invariant.within, c.loop-item.invariant.reads) c.number-in-Some.ensures.value c.turn.ensures.many c.turn.ensures.place c.turn.ensures.same in
    let before = c.loop-item.invariant in
    let monitor = c.args.monitor.now in
    let all = observations_in monitor (24 * c.args.first) 2208 c.args.shelf.now in
    let whole = set c.loop-item.days c.loop-item.at_hand.place c.loop-item.at_hand.tally in
    let place = c.turn.new.self.place in
    let over = put-over c.turn.new.days whole place c.turn.new.self.tally c.turn.ensures.same c.add.new.self in
    record {
      many = c.turn.ensures.many;
      place = hour.small;
      end = c.turn.ensures.end;
      start = before.start;
      ranges = (subst (λ (is : List Item). AllByRecursion (λ (item : Item). HasValueInRange monitor.pollutant item.1) is) c.in-Some.ensures.some before.ranges).1;
      rising = hour.stands.0.1;
      within =
          within-on (24 * c.from-start.result + 24 * place) (24 * c.from-start.result + 24 * c.loop-item.at_hand.place) c.in-Some.item.now.0 (24 * c.args.first + 2208)
          (omega (arith, hour.stands.1.0.0, c.number-in-Some.ensures.value, c.turn.ensures.place)) c.next_standing.new.self hour.stands.0.0 hour.stands.1.1;
      reads =
          subst (λ (now : List DayTally). Reads c.args.registry.now monitor c.args.first all c.next_standing.new.self now) over
          (reads-next c.args.registry.now monitor c.args.first c.in-Some.item.now c.next_standing.new.self all hour.stands.0.0 whole place hour.at hour.many hour.small hour.stands.2 c.add.new.self
          (λ d cells is.
          subst (λ o. IsTallyOf (cells ++ option_to_list o) c.add.new.self) c.particle_of-cell.ensures.value
          (c.add.ensures.tally cells (subst (λ (t : DayTally). IsTallyOf cells t) (hour.hand d) is)))
          (λ d. subst (λ (t : DayTally). c.add.new.self.count ≤ t.count + 1) (sym (hour.hand d)) c.add.ensures.count));
      values =
          subst (λ (now : List DayTally). AreOfParticles c.args.registry.now monitor c.args.first now) over
          (particles-next c.args.registry.now monitor c.args.first c.in-Some.item.now c.next_standing.new.self all hour.stands.0.0 whole place hour.at hour.many hour.small hour.stands.2 c.add.new.self before.values c.add.ensures.values);
    }

pub returns-clause-tallies : goal.returns-clause-tallies
returns-clause-tallies g c =
    let before = c.loop-item.invariant in
    let rows = c.args.shelf.now in
    let all = observations_in c.args.monitor.now (24 * c.args.first) 2208 rows in
    let whole = set c.loop-item.days c.loop-item.at_hand.place c.loop-item.at_hand.tally in
    reads-done c.args.registry.now c.args.monitor.now c.args.first rows c.span-span.ensures.shelf.rising whole
    (subst (λ (is : List Item). Reads c.args.registry.now c.args.monitor.now c.args.first all is whole) c.in_default.ensures.none before.reads)
