use mir.Val.{bool_byte}
use Rattle.std.proofs.Common.{◌≡◌, ◌+◌, cond, refl, ap, ◌∙◌, arith}
use Rattle.aq_rules.specs.Office.Schedule.{is_scheduled}
use Rattle.aq_listed.proofs.CountedOnce.{at_most_one, count_range, one_where}
use Rattle.aq_listed.proofs.due_samples.scheduled_days.Goals as goal

pub loop-place-preserved : goal.loop-place-preserved
loop-place-preserved c =
    let asks = is_scheduled c.args.registry.now c.args.monitor.now.site c.args.monitor.now.pollutant in
    let number = c.args.first + c.loop-place.place in
    let day : c.new-day.result ≡ number = omega (arith, c.new-day.ensures, c.number.ensures.value, c.from.ensures) in
    let one : c.from-count.result ≡ cond (asks number) 1 0 = c.from-count.ensures ∙ ap bool_byte (c.is_scheduled.ensures ∙ ap asks day) ∙ one_where (asks number) in
    let more = count_range asks c.args.first c.loop-place.place number refl in
    let small = at_most_one (asks number) in
    record {
      counted = omega (arith, c.loop-place.invariant.counted, more, one);
      few = omega (arith, c.loop-place.invariant.few, one, small);
    }
