use Rattle.std.proofs.Common.{◌≡◌, ◌+◌, ◌*◌, ◌<◌, ◌∙◌, ap, arith}
use Rattle.aq_series.specs.DayStates.{site_hours}
use Rattle.aq_series.specs.OfficeView.{office_of}
use Rattle.aq_ozone_cells.specs.Filling.{hours_from}
use Rattle.aq_ozone_cells.proofs.FillLemmas.{others-more, others-of, same-itself, span-part, week-more}
use Rattle.aq_ozone_cells.proofs.filling.fill_week.Goals as goal

pub loop-i-init : goal.loop-i-init
loop-i-init g c = record {
  filled = λ day low high. absurd (omega (arith, low, high));
  others = λ other day off. same-itself c.args.cells.now other day;
  steps = omega (arith, c.site_hours-hours.ensures.steps);
}

pub loop-i-preserved : goal.loop-i-preserved
loop-i-preserved g c =
    let office = office_of c.args.registry.now c.args.shelf.now in
    let at : c.args.first + c.loop-i.i ≡ c.new-in-loop-i.result = omega (arith, c.new-in-loop-i.ensures) in
    let within : c.loop-i.i < 7 = omega (arith, c.loop-i-test.true, c.days_from-i-end.ensures.most) in
    let hours = span-part office c.args.site c.args.first c.loop-i.i (24 * c.from-from.result) c.site_hours-hours.result within (ap (λ n. 24 * n) c.from-from.ensures) (c.site_hours-hours.ensures.hours ∙ ap (site_hours office c.args.site) c.new.ensures) in
    record {
      filled =
          week-more office c.args.cells.now c.fill_one.new.cells c.args.site c.args.first c.loop-i.i c.loop-i.cells c.new-in-loop-i.result at c.loop-i.invariant.filled c.in_ok-fill_one.ensures.others
          (c.in_ok-fill_one.ensures.filled c.args.shelf.now (hours ∙ ap (hours_from office c.args.site) at));
      others =
          others-more office c.args.cells.now c.fill_one.new.cells c.args.site c.args.first c.loop-i.i c.loop-i.cells c.new-in-loop-i.result at c.loop-i.invariant.others c.in_ok-fill_one.ensures.others;
      steps = omega (arith, c.loop-i.invariant.steps, c.fill_one.ensures.steps);
    }

pub returns-clause-filled : goal.returns-clause-filled
returns-clause-filled g c day low high in_profile =
    c.loop-i.invariant.filled day low (omega (arith, c.days_from-i-end.ensures.all day high in_profile, c.loop-i-test.false, c.loop-i.auto.i-end))

pub returns-clause-others : goal.returns-clause-others
returns-clause-others g c =
    others-of c.args.cells.now c.loop-i.cells c.args.site c.args.first c.loop-i.i (omega (arith, c.days_from-i-end.ensures.most, c.loop-i.auto.i-end)) c.loop-i.invariant.others
