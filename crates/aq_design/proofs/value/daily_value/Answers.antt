use Rattle.aq_design.proofs.DesignLemmas.{daily-value}
use Rattle.aq_design.proofs.value.daily_value.Goals as goal

pub returns-clause-value : goal.returns-clause-value
returns-clause-value g c =
    let years = c.three_pm25_years-years.ensures in
    daily-value (g.Y.Years.office c.args.source.now) c.args.site c.args.year c.three_pm25_years-years.result c.daily.result years.years c.daily.ensures
    c.eight_greatest_are_enough_for_the_daily_verdict.ensures years.first_kept years.second_kept years.third_kept
