use Rattle.std.proofs.Common.{[], ◌∷◌, ◌∙◌, ap, map, sym}
use Rattle.aq_rules.specs.Particles.AnnualVerdict.{counts_in}
use Rattle.aq_rules.specs.Particles.DailyVerdict.{is_daily_year, percentile_of}
use Rattle.aq_rules.specs.Kept.Summaries.{PmYear}
use Rattle.aq_rules.specs.Kept.SummaryVerdicts.{of_summaries}
use Rattle.aq_verdict.proofs.Rows.{three-of}
use Rattle.aq_verdict.proofs.daily_value.valid_years.Goals as goal

pub returns : goal.returns
returns c =
    let first = c.is_daily_year.ensures in
    let second = c.is_daily_year-2.ensures in
    let third = c.is_daily_year-3.ensures in
    (λ i. first i ∷ second i ∷ third i ∷ [])
    ∙ ap (map (λ (year : PmYear). is_daily_year c.args.value (percentile_of of_summaries year) (counts_in of_summaries year)))
    (sym (three-of c.args.years.now c.index-years-0.result c.index-years-1.result c.index-years-2.result c.told-years))
