use Rattle.std.proofs.Common.{ap, w32, ◌∙◌}
use Rattle.std.specs.Prelude.{ℤ}
use Rattle.std.proofs.lemmas.Int.{to_z-of_z}
use Rattle.aq_rules.specs.Kept.SummaryVerdicts.{kept_annual_dv}
use Rattle.aq_design.proofs.DesignLemmas.{annual-value}
use Rattle.aq_design.proofs.value.annual_value.Goals as goal

pub returns-clause-value : goal.returns-clause-value
returns-clause-value g c =
    let office = g.Y.Years.office c.args.source.now in
    let years = c.three_pm25_years-years.result in
    annual-value office c.args.site c.args.year years c.annual.result c.three_pm25_years-years.ensures.years c.args.level
    (c.annual.ensures ∙ ap (λ (level : ℤ). kept_annual_dv level years) (to_z-of_z w32 c.args.level c.ranges.level))
    (c.office_verdicts_read_what_is_kept.ensures.annual c.args.level office c.args.site c.args.year)
