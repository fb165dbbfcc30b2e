use Rattle.std.proofs.Common.{◌≡◌, ◌-◌, ◌++◌, List, map, filter}
use Rattle.std.specs.List.{range_with_len}
use Rattle.aq_rules.specs.Shown.Generator.{Wanted}
use Rattle.aq_simulation.specs.Generator.Samples.{wanted_at_midnight, is_due, completed}
use Rattle.aq_simulation.proofs.generator.samples.Samples.add_days.Given as goal

abbrev pub invariant-loop-day : goal.invariant-loop-day
invariant-loop-day l = record {
  rest :
      (more : List Wanted)
      → completed l.self (map (wanted_at_midnight l.site l.pollutant) (filter (is_due l.interval l.start) (range_with_len l.day (l.end - l.day))) ++ more)
      ≡ completed l.fn.self (map (wanted_at_midnight l.site l.pollutant) (filter (is_due l.interval l.start) (range_with_len l.fn.first (l.end - l.fn.first))) ++ more);
}
