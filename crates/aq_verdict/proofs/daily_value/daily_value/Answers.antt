use Rattle.std.proofs.Common.{◌∙◌, ap, map, sym}
use Rattle.aq_rules.specs.Particles.Percentile.{daily_value}
use Rattle.aq_rules.specs.Particles.DailyVerdict.{percentile_of, value_of_three}
use Rattle.aq_rules.specs.Kept.SummaryVerdicts.{of_summaries}
use Rattle.aq_verdict.proofs.Rows.{three-of}
use Rattle.aq_verdict.proofs.daily_value.daily_value.Goals as goal

pub returns : goal.returns
returns c =
    let first = c.percentile_of.ensures in
    let second = c.percentile_of-2.ensures in
    let third = c.percentile_of-3.ensures in
    c.mean_of.ensures ∙ (λ i. daily_value (first i) (second i) (third i))
    ∙ ap (λ l. value_of_three (map (percentile_of of_summaries) l))
    (sym (three-of c.args.years.now c.index-years-0.result c.index-years-1.result c.index-years-2.result c.told-years))
