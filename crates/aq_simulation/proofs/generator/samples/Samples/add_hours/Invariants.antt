use Rattle.std.proofs.Common.{◌≡◌, ◌-◌, ◌++◌, List, map}
use Rattle.std.specs.List.{range_with_len}
use Rattle.aq_base.specs.declared.monitor.Pollutant.TheVariants.{Ozone}
use Rattle.aq_rules.specs.Shown.Generator.{Wanted}
use Rattle.aq_simulation.specs.Generator.Samples.{wanted, completed}
use Rattle.aq_simulation.proofs.generator.samples.Samples.add_hours.Given as goal

abbrev pub invariant-loop-hour : goal.invariant-loop-hour
invariant-loop-hour l =
    (more : List Wanted)
    → completed l.self (map (wanted l.site Ozone) (range_with_len l.hour (l.end - l.hour)) ++ more)
    ≡ completed l.fn.self (map (wanted l.site Ozone) (range_with_len l.start (l.end - l.start)) ++ more)
