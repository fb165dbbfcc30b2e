use Rattle.std.proofs.Common.{◌-◌, [], ◌∷◌, ◌∙◌}
use Rattle.aq_design.specs.Combined.Pairs.{office_in, pair_in}
use Rattle.aq_design.proofs.CombinedLemmas.Designs.{ozone-value, ozone-year-is}
use Rattle.aq_design.proofs.combined.value.ozone_value.Goals as goal

pub returns-clause-value : goal.returns-clause-value
returns-clause-value g c =
    let pair = c.args.pair.now in
    let year_is = ozone-year-is (office_in pair) (pair_in pair) in
    ozone-value (office_in pair) (pair_in pair) c.args.year (c.year_of-first.result ∷ c.year_of-second.result ∷ c.year_of-third.result ∷ []) c.ozone.result
    (λ i. (c.year_of-first.ensures.year ∙ year_is (c.args.year - 2)) i ∷ (c.year_of-second.ensures.year ∙ year_is (c.args.year - 1)) i ∷ (c.year_of-third.ensures.year ∙ year_is c.args.year) i ∷ [])
    c.ozone.ensures
