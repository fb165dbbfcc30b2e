use Rattle.std.proofs.Common.{◌≡◌, ◌-◌, ◌++◌, map}
use Rattle.std.specs.Prelude.{flat_map}
use Rattle.std.specs.List.{range_with_len}
use Rattle.aq_rules.specs.Shown.Generator.{FIRST_GENERATED_YEAR, generated_season, record_text}
use Rattle.aq_simulation.proofs.generator.office.add_seasons.Given as goal

abbrev pub invariant-loop-year : goal.invariant-loop-year
invariant-loop-year l =
    l.text.items ++ flat_map record_text (map (generated_season l.number) (range_with_len l.year (l.year-end - l.year)))
    ≡ l.fn.text.items ++ flat_map record_text (map (generated_season l.number) (range_with_len FIRST_GENERATED_YEAR (l.year-end - FIRST_GENERATED_YEAR)))
