use Rattle.std.proofs.Common.{◌≡◌, map, ℕ, ap, ◌∙◌, arith}
use Rattle.aq_reports.specs.Daily.DayRows.{pm10_row}
use Rattle.aq_reports.proofs.DailyLemmas.YearDays.{days_before, year-days}
use Rattle.aq_reports.proofs.daily.pm10_sheet.pm10_rows.Goals as goal

pub returns : goal.returns
returns g c =
    let row = pm10_row (g.S.Years.office c.args.source.now) c.args.site in
    let four : c.loop-part.part ≡ 4 = omega (arith, c.loop-part-test.false, c.loop-part.auto.part-end) in
    c.loop-part.invariant ∙ ap (λ (n : ℕ). map row (days_before c.args.year n)) four ∙ ap (map row) (year-days c.args.year c.requires.year)
