use Rattle.std.proofs.Common.{◌<◌, None, get_or, length, subst, ◌∙◌, arith, Option}
use Rattle.std.proofs.lemmas.List.{get_or_default, length-set}
use Rattle.aq_rules.specs.Ozone.SiteHour.{Cell}
use Rattle.aq_series.specs.DaySums.{AddsDay}
use Rattle.aq_series.specs.declared.site_spans.DayState.{DayState}
use Rattle.aq_series.proofs.SiteSpans.{days-set, rest-set}
use Rattle.aq_series.proofs.site_spans.add_days.Goals as goal

pub loop-i-preserved : goal.loop-i-preserved
loop-i-preserved c =
    let before = c.loop-i.invariant in
    let within : c.loop-i.i < length c.loop-i.states = omega (arith, before.many, c.loop-i-test.true, c.loop-i.auto.i-end, c.requires.few, c.from-i-end.ensures) in
    let there : c.loop-i.i < length c.args.cells.now = omega (arith, c.loop-i-test.true, c.loop-i.auto.i-end, c.requires.few, c.from-i-end.ensures) in
    record {
      many = length-set c.loop-i.states c.loop-i.i c.add.new.self ∙ before.many;
      done =
          days-set c.args.cells.now c.args.poc c.args.states.now c.loop-i.states c.loop-i.i c.add.new.self within before.rest before.done
          (λ d. subst (λ (s : DayState). AddsDay c.args.poc (get_or c.args.cells.now c.loop-i.i None) s c.add.new.self) (get_or_default c.loop-i.states c.loop-i.i _ d within)
          (subst (λ (o : Option Cell). AddsDay c.args.poc o (get_or c.loop-i.states c.loop-i.i c.index-states-i.result) c.add.new.self) (get_or_default c.args.cells.now c.loop-i.i c.index-cells-i.result None there) c.add.ensures));
      rest = rest-set c.args.cells.now c.args.poc c.args.states.now c.loop-i.states c.loop-i.i c.add.new.self within before.rest;
    }
