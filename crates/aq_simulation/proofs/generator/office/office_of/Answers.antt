use Rattle.std.proofs.Common.{◌∙◌, [], arith, refl}
use Rattle.std.specs.Prelude.{flat_map}
use Rattle.aq_rules.specs.Shown.Generator.{generated_records, record_text, office_load}
use Rattle.aq_simulation.proofs.GeneratorLemmas.Walks.{walk-step, walk-all}
use Rattle.aq_simulation.proofs.GeneratorLemmas.Written.{records-of-sites}
use Rattle.aq_simulation.proofs.generator.office.office_of.Goals as goal

pub loop-number-preserved : goal.loop-number-preserved
loop-number-preserved c =
    walk-step (λ numbers. flat_map record_text (flat_map (generated_records c.args.years) numbers)) (λ number. flat_map record_text (generated_records c.args.years number)) (records-of-sites c.args.years)
    c.loop-number.number _ _ _ c.loop-number-test.true c.in_ok-add_site.ensures
    ∙ c.loop-number.invariant

pub returns : goal.returns
unfolding office_load
returns c =
    walk-all (λ numbers. flat_map record_text (flat_map (generated_records c.args.years) numbers)) refl 1 c.args.sites
    c.loop-number.number _ [] c.loop-number.text.items c.loop-number-test.false (omega (arith, c.from-number-end.ensures)) c.loop-number.invariant
