use Rattle.aq_design.specs.Combined.Pairs.{office_in, pair_in}
use Rattle.aq_design.proofs.CombinedLemmas.Designs.{daily-value}
use Rattle.aq_design.proofs.combined.value.daily_value.Goals as goal

pub returns : goal.returns
returns g c =
    let pair = c.args.pair.now in
    let years = c.three_pm25_years-years.ensures in
    daily-value (office_in pair) (pair_in pair) c.args.year c.three_pm25_years-years.result c.daily.result years.years c.daily.ensures c.eight_greatest_are_enough_for_the_daily_verdict.ensures years.first_kept years.second_kept years.third_kept
