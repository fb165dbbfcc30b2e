use Rattle.std.proofs.Common.{ap, sym, ◌∙◌}
use Rattle.aq_base.specs.declared.monitor.Pollutant.{Pollutant}
use Rattle.aq_rules.specs.Kept.Summaries.{PmYear}
use Rattle.aq_rules.specs.Kept.SummaryVerdicts.{kept_counted}
use Rattle.aq_rules.specs.Listed.Highest.{deciding_rank}
use Rattle.aq_reports.proofs.DailyLemmas.HighestDays.{pm25-decides}
use Rattle.aq_reports.proofs.daily.highest.deciding_rank.Goals as goal

pub returns-in-Pm25 : goal.returns-in-Pm25
returns-in-Pm25 g c =
    c.deciding_pm25.ensures
    ∙ pm25-decides (g.S.Years.office c.args.source.now) c.args.site c.args.year c.args.pollutant c.counted_in.result c.in-Pm25.is (c.counted_in.ensures.value ∙ ap (λ (y : PmYear). kept_counted y.quarters) c.pm25-year.ensures.year)

pub returns-in-Pm10 : goal.returns-in-Pm10
unfolding deciding_rank
returns-in-Pm10 g c = ap (λ (p : Pollutant). deciding_rank (g.S.Years.office c.args.source.now) c.args.site p c.args.year) (sym c.in-Pm10.is)
