use Rattle.std.proofs.Common.{ap, ◌∙◌}
use Rattle.std.specs.Prelude.{Option, option_map}
use Rattle.aq_rules.specs.Office.Questions.{combined}
use Rattle.aq_design.specs.Combined.Pairs.{pair_in}
use Rattle.aq_design.specs.declared.combined.pair.Pair.{Pair as Combined}
use Rattle.aq_design.proofs.CombinedLemmas.Designs.{no-pair, one-pair}
use Rattle.aq_design.proofs.combined.pair.Pair.of.Goals as goal

pub returns-in_err-joined-clause-pair : goal.returns-in_err-joined-clause-pair
returns-in_err-joined-clause-pair c =
    ap (λ (o : Option Combined). option_map pair_in o) c.from_residual.ensures
    ∙ no-pair c.args.site (combined c.args.registry.now c.args.site c.args.pollutant) c.in_err-joined.ensures

pub returns-clause-pair : goal.returns-clause-pair
returns-clause-pair c = one-pair c.args.site c.in_ok-joined.joined c.in_ok-joined.from (combined c.args.registry.now c.args.site c.args.pollutant) c.in_ok-joined.ensures
