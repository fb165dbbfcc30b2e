use Rattle.std.proofs.Common.{◌≡◌, ◌-◌, ◌++◌}
use Rattle.std.specs.Prelude.{flat_map}
use Rattle.std.specs.List.{range_with_len}
use Rattle.aq_rules.specs.Shown.Generator.{generated_records, record_text}
use Rattle.aq_simulation.proofs.generator.office.office_of.Given as goal

abbrev pub invariant-loop-number : goal.invariant-loop-number
invariant-loop-number l =
    l.text.items ++ flat_map record_text (flat_map (generated_records l.years) (range_with_len l.number (l.number-end - l.number)))
    ≡ flat_map record_text (flat_map (generated_records l.years) (range_with_len 1 (l.number-end - 1)))
