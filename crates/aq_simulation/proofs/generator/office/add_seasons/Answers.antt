use Rattle.std.proofs.Common.{◌∙◌, arith, refl, map}
use Rattle.std.specs.Prelude.{flat_map}
use Rattle.aq_rules.specs.Shown.Generator.{FIRST_GENERATED_YEAR, generated_season, generated_years, record_text}
use Rattle.aq_simulation.proofs.GeneratorLemmas.Walks.{walk-step, walk-all}
use Rattle.aq_simulation.proofs.generator.office.add_seasons.Goals as goal

pub loop-year-preserved : goal.loop-year-preserved
loop-year-preserved c =
    walk-step (λ years. flat_map record_text (map (generated_season c.args.number) years)) (λ year. record_text (generated_season c.args.number year)) (λ year rest. refl)
    c.loop-year.year _ _ _ c.loop-year-test.true c.in_ok-add_season.ensures
    ∙ c.loop-year.invariant

pub returns : goal.returns
unfolding generated_years
returns c =
    walk-all (λ years. flat_map record_text (map (generated_season c.args.number) years)) refl FIRST_GENERATED_YEAR c.args.years
    c.loop-year.year _ c.args.text.now.items c.loop-year.text.items c.loop-year-test.false (omega (arith, c.from-year-end.ensures)) c.loop-year.invariant
