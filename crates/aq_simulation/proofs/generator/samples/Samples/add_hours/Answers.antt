use Rattle.std.proofs.Common.{◌+◌, ◌*◌, ap, arith}
use Rattle.aq_base.specs.declared.monitor.Pollutant.TheVariants.{Ozone}
use Rattle.aq_simulation.specs.Generator.Samples.{wanted, completed}
use Rattle.aq_simulation.proofs.GeneratorLemmas.Written.{sample-step, samples-end}
use Rattle.aq_simulation.proofs.generator.samples.Samples.add_hours.Goals as goal

pub loop-hour-preserved : goal.loop-hour-preserved
loop-hour-preserved c more =
    sample-step (wanted c.args.site Ozone) (completed c.loop-hour.self) (completed c.add.new.self) c.loop-hour.hour _ _ _ more
    c.loop-hour-test.true (ap (wanted c.args.site Ozone) c.new.ensures) c.in_ok-add.ensures (c.loop-hour.invariant more)

pub returns : goal.returns
returns c more =
    samples-end (wanted c.args.site Ozone) (completed c.loop-hour.self) (completed c.args.self.now) c.loop-hour.hour
    (24 * c.from-start.result + 24 * c.from.result) (24 * c.from-start.result) (24 * c.args.first) (24 * c.args.days) more
    c.loop-hour-test.false (omega (arith, c.from-start.ensures, c.number.ensures.value)) (omega (arith, c.from-start.ensures, c.number.ensures.value, c.from.ensures))
    (c.loop-hour.invariant more)
