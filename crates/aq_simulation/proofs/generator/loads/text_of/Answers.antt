use Rattle.aq_simulation.specs.Generator.Sizes.{IsSmall}
use Rattle.aq_simulation.proofs.GeneratorLemmas.Given.{if_ok-weaker}
use Rattle.aq_simulation.proofs.GeneratorLemmas.Sizes.{office_small, samples_small}
use Rattle.aq_simulation.proofs.generator.loads.text_of.Goals as goal

pub returns-then-load-eq1-clause-few : goal.returns-then-load-eq1-clause-few
returns-then-load-eq1-clause-few c =
    if_ok-weaker c.office_of.result _ (λ text. IsSmall text.items)
    (λ text is. office_small c.args.sites c.args.years text.items c.requires.sites.1 c.requires.years.1 is) c.office_of.ensures

pub returns-clause-few : goal.returns-clause-few
returns-clause-few c =
    if_ok-weaker c.samples_of.result _ (λ text. IsSmall text.items) (λ text is. samples_small _ _ _ text.items is) c.samples_of.ensures
