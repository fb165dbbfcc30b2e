use Rattle.std.proofs.Common.{◌+◌, ◌∷◌, ◌∙◌, ℕ, true, false, ap, arith}
use Rattle.aq_base.specs.Calendar.{hour_number}
use Rattle.aq_simulation.specs.Generator.Samples.{wanted, wanted_at_midnight, completed, is_due}
use Rattle.aq_simulation.proofs.GeneratorLemmas.Written.{due, undue, day-step, days-end}
use Rattle.aq_simulation.proofs.generator.samples.Samples.add_days.Goals as goal
use Rattle.aq_simulation.proofs.generator.samples.Samples.add_days.Goals.{then-day-number-eq0+in_ok-add, else-day-number-eq0}

pub loop-day-preserved : goal.loop-day-preserved
loop-day-preserved c =
    let day = c.loop-day.day in
    let end = c.number.result + c.args.days in
    let before = c.loop-day.self in
    let wants = wanted_at_midnight c.args.site c.args.pollutant in
    let is_wanted = is_due c.args.interval c.args.start in
    record {
      rest = λ more. elim c.if-day-number-eq0.branch [
        | then-day-number-eq0+in_ok-add w ↦
            day-step wants is_wanted (completed before) (completed c.if-day-number-eq0.self) day end true _ more c.loop-day-test.true
            (due c.args.interval c.args.start day c.number-in-loop-day.result c.number-in-loop-day.ensures.value w.if-day-number-eq0.true)
            (λ rest.
            ap (λ s. completed s rest) w.self-is ∙ w.in_ok-add.ensures rest
            ∙ ap (λ (hour : ℕ). completed before (wanted c.args.site c.args.pollutant hour ∷ rest)) (w.hour_of.ensures ∙ ap (λ (d : ℕ). hour_number d 0) w.new.ensures))
            (c.loop-day.invariant.rest more)
        | else-day-number-eq0 w ↦
            day-step wants is_wanted (completed before) (completed c.if-day-number-eq0.self) day end false _ more c.loop-day-test.true
            (undue c.args.interval c.args.start day c.number-in-loop-day.result c.number-in-loop-day.ensures.value w.if-day-number-eq0.false)
            (λ rest. ap (λ s. completed s rest) w.self-is) (c.loop-day.invariant.rest more)
      ];
    }

pub returns : goal.returns
returns c more =
    days-end (wanted_at_midnight c.args.site c.args.pollutant) (is_due c.args.interval c.args.start) (completed c.loop-day.self) (completed c.args.self.now) c.loop-day.day
    (c.number.result + c.args.days) c.args.first c.args.days more c.loop-day-test.false (omega (arith, c.number.ensures.value)) (c.loop-day.invariant.rest more)
