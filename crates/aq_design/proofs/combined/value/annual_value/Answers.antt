use Rattle.std.proofs.Common.{ap, w32, ◌∙◌}
use Rattle.std.specs.Prelude.{ℤ}
use Rattle.std.proofs.lemmas.Int.{to_z-of_z}
use Rattle.aq_rules.specs.Kept.SummaryVerdicts.{kept_annual_dv}
use Rattle.aq_design.specs.Combined.Pairs.{office_in, pair_in}
use Rattle.aq_design.proofs.CombinedLemmas.Designs.{annual-value}
use Rattle.aq_design.proofs.combined.value.annual_value.Goals as goal

pub returns : goal.returns
returns g c =
    let pair = c.args.pair.now in
    let years = c.three_pm25_years-years.result in
    annual-value (office_in pair) (pair_in pair) c.args.year years c.annual.result c.three_pm25_years-years.ensures.years c.args.level
    (c.annual.ensures ∙ ap (λ (level : ℤ). kept_annual_dv level years) (to_z-of_z w32 c.args.level c.ranges.level)) c.sums_are_enough_for_the_annual_verdict.ensures
