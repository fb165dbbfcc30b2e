use Rattle.std.proofs.Common.{◌≡◌, ℕ, ◌+◌, ◌*◌, ◌<◌, ◌≤◌, ◌-◌, List, false, length, arith, sym, ap, subst, ◌∙◌}
use Rattle.std.specs.Prelude.{pos, None}
use Rattle.std.specs.List.{AllByRecursion}
use Rattle.std.proofs.lemmas.List.{get_or_default, length-set}
use Rattle.aq_base.specs.Values.{HasValueInRange}
use Rattle.aq_base.specs.declared.monitor.Pollutant.TheVariants.{Ozone}
use Rattle.aq_shelf.specs.Standing.{observations_in}
use Rattle.aq_series.specs.DayStates.{AddsValue, HasRoom}
use Rattle.aq_series.specs.declared.day_hours.HourState.{HourState}
use Rattle.aq_series.proofs.DaySteps.{few_within, reads-more, reads-past, reads-start, span-within, unchanged_yet, Ahead, Reads}
use Rattle.aq_series.proofs.Spans.{Item, span-rises}
use Rattle.aq_series.proofs.day_hours.add_span.Goals as goal

abbrev AreInRange : List Item → Type 0
AreInRange items = AllByRecursion (λ (item : Item). HasValueInRange Ozone item.1) items

pub loop-hour-init : goal.loop-hour-init
loop-hour-init g c =
    let monitor = c.args.monitor.now in
    let rows = c.args.shelf.now in
    let from = 24 * c.args.day in
    let rising = c.span-hour-items.ensures.shelf.rising in
    let first : 24 * c.from-first.result ≡ from = omega (arith, c.from-first.ensures, c.number.ensures.value) in
    let items : c.into_iter-hour-iterator.result ≡ observations_in monitor from 192 rows =
    c.into_iter-hour-iterator.ensures.into_iter_gives ∙ c.span-hour-items.ensures.observations
    ∙ ap (λ (n : ℕ). observations_in monitor n 192 rows) (c.new.ensures ∙ first)
    in
    let few : length (observations_in monitor from 192 rows) ≤ 192 = few_within from 192 (observations_in monitor from 192 rows) (span-rises monitor from 192 rows rising) (span-within monitor from 192 rows) in
    let many : length c.span-hour-items.result ≤ 192 = rw (sym c.into_iter-hour-iterator.ensures.into_iter_gives ∙ items) few in
    record {
      can_next = tt;
      is_finite = tt;
      many = search;
      first = first;
      ranges =
          rw c.into_iter-hour-iterator.ensures.into_iter_gives
          (subst (λ p. AllByRecursion (λ (item : Item). HasValueInRange p item.1) c.span-hour-items.result) c.requires.ozone c.span-hour-items.ensures.ranges);
      rising = rw items (span-rises monitor from 192 rows rising);
      within = rw items (span-within monitor from 192 rows);
      reads =
          subst (λ (is : List Item). Reads c.args.registry.now rows monitor c.args.day is c.args.hours.now c.args.hours.now) (sym items)
          (reads-start c.args.registry.now rows monitor c.args.day rising c.args.hours.now);
      steps = omega (arith, many, c.span-hour-items.ensures.steps);
    }

pub add-requires-clause-room : goal.add-requires-clause-room
add-requires-clause-room g c =
    let before = c.loop-hour.invariant in
    let ahead = subst (Ahead c.args.registry.now c.args.shelf.now c.args.monitor.now c.args.day c.args.hours.now c.loop-hour.hours) c.in-Some.ensures.steps (before.rising, before.within, before.reads) in
    let place = c.number-in-Some-cell_of.result - 24 * c.from-first.result in
    let below : place < 192 = omega (arith, before.first, ahead.1.0.0, ahead.1.0.1, c.number-in-Some-cell_of.ensures.value) in
    let at : c.in-Some.hour ≡ 24 * c.args.day + place = omega (arith, before.first, ahead.1.0.0, c.number-in-Some-cell_of.ensures.value) in
    let d : HourState = record { values = record { sum = pos 0; count = 0; excluded = false }; primary = None; is_settled = false } in
    subst (λ (state : HourState). HasRoom state)
    (sym (unchanged_yet c.args.registry.now c.args.shelf.now c.args.monitor.now c.args.day (c.in-Some.hour, c.in-Some.content) c.next.new.self ahead.0 c.args.hours.now c.loop-hour.hours ahead.2 place d below at))
    (c.requires.room place d below)

pub loop-hour-preserved-in-Some-cell_of : goal.loop-hour-preserved-in-Some-cell_of
loop-hour-preserved-in-Some-cell_of g c =
    let before = c.loop-hour.invariant in
    let ahead = subst (Ahead c.args.registry.now c.args.shelf.now c.args.monitor.now c.args.day c.args.hours.now c.loop-hour.hours) c.in-Some.ensures.steps (before.rising, before.within, before.reads) in
    let place = c.number-in-Some-cell_of.result - 24 * c.from-first.result in
    let below : place < length c.loop-hour.hours = omega (arith, before.many, before.first, ahead.1.0.0, ahead.1.0.1, c.number-in-Some-cell_of.ensures.value) in
    let at : c.in-Some.hour ≡ 24 * c.args.day + place = omega (arith, before.first, ahead.1.0.0, c.number-in-Some-cell_of.ensures.value) in
    record {
      can_next = tt;
      is_finite = tt;
      many = length-set c.loop-hour.hours place c.add.new.self ∙ before.many;
      first = before.first;
      ranges = (subst AreInRange c.in-Some.ensures.steps before.ranges).1;
      rising = ahead.0.1;
      within = ahead.1.1;
      reads =
          reads-more c.args.registry.now c.args.shelf.now c.args.monitor.now c.args.day (c.in-Some.hour, c.in-Some.content) c.next.new.self ahead.0 c.args.hours.now c.loop-hour.hours ahead.2
          c.in-Some-cell_of.cell place c.add.new.self (sym c.cell_of.ensures.value ∙ c.in-Some-cell_of.is) at below
          (λ d. subst (λ (state : HourState). AddsValue c.args.monitor.now.poc c.in-Some-cell_of.cell state c.add.new.self) (get_or_default c.loop-hour.hours place _ d below) c.add.ensures);
      steps = before.steps;
    }

pub loop-hour-preserved : goal.loop-hour-preserved
loop-hour-preserved g c =
    let before = c.loop-hour.invariant in
    let ahead = subst (Ahead c.args.registry.now c.args.shelf.now c.args.monitor.now c.args.day c.args.hours.now c.loop-hour.hours) c.in-Some.ensures.steps (before.rising, before.within, before.reads) in
    record {
      can_next = tt;
      is_finite = tt;
      many = before.many;
      first = before.first;
      ranges = (subst AreInRange c.in-Some.ensures.steps before.ranges).1;
      rising = ahead.0.1;
      within = ahead.1.1;
      reads =
          reads-past c.args.registry.now c.args.shelf.now c.args.monitor.now c.args.day (c.in-Some.hour, c.in-Some.content) c.next.new.self ahead.0 c.args.hours.now c.loop-hour.hours ahead.2
          (sym c.cell_of.ensures.value ∙ c.in_default.is);
      steps = before.steps;
    }
