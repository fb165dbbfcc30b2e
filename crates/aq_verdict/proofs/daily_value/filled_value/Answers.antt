use Rattle.std.proofs.Common.{◌∙◌, ap, map, sym}
use Rattle.aq_rules.specs.Particles.Percentile.{daily_value}
use Rattle.aq_rules.specs.Particles.DailyVerdict.{filled_percentile, value_of_three}
use Rattle.aq_rules.specs.Kept.SummaryVerdicts.{of_summaries}
use Rattle.aq_verdict.proofs.Rows.{three-of}
use Rattle.aq_verdict.proofs.daily_value.filled_value.Goals as goal

pub returns : goal.returns
returns c =
    let years = c.args.years.now in
    let first = c.filled_percentile.ensures in
    let second = c.filled_percentile-2.ensures in
    let third = c.filled_percentile-3.ensures in
    c.mean_of.ensures ∙ (λ i. daily_value (first i) (second i) (third i))
    ∙ ap (λ l. value_of_three (map (filled_percentile of_summaries years) l))
    (sym (three-of years c.index-years-0.result c.index-years-1.result c.index-years-2.result c.told-years))
