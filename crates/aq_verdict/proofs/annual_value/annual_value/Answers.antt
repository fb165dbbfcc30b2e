use Rattle.std.proofs.Common.{◌++◌, ◌∙◌, ap}
use Rattle.std.specs.Prelude.{[]}
use Rattle.std.proofs.lemmas.List.Elements.{All-append}
use Rattle.aq_rules.specs.Particles.Means.{mean_of_means}
use Rattle.aq_rules.specs.Kept.Summaries.{PmYear}
use Rattle.aq_rules.specs.Kept.SummaryVerdicts.{of_summaries}
use Rattle.aq_verdict.specs.QuarterlyMean.{IsMean}
use Rattle.aq_verdict.proofs.Rows.{three-of, map-three}
use Rattle.aq_verdict.proofs.annual_value.annual_value.Goals as goal

pub mean_of_three_years-requires : goal.mean_of_three_years-requires
mean_of_three_years-requires c =
    rw c.together-means.ensures
    (All-append IsMean _ _ c.quarterly_means.ensures.each (All-append IsMean _ _ c.quarterly_means-2.ensures.each c.quarterly_means-3.ensures.each))

pub returns : goal.returns
returns c =
    let years = c.args.years.now in
    let three = three-of years c.index-years-0.result c.index-years-1.result c.index-years-2.result c.told-years in
    let first = c.quarterly_means.ensures.means in
    let second = c.quarterly_means-2.ensures.means in
    let third = c.quarterly_means-3.ensures.means in
    c.mean_of_three_years.ensures
    ∙ ap mean_of_means
    (c.together-means.ensures ∙ (λ i. first i ++ (second i ++ third i))
    ∙ map-three (of_summaries.mean_with []) (λ (y : PmYear). y.quarters) years _ _ _ three)
