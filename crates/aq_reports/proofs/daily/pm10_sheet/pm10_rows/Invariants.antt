use Rattle.std.proofs.Common.{◌≡◌, map}
use Rattle.aq_reports.specs.Daily.DayRows.{pm10_row}
use Rattle.aq_reports.proofs.DailyLemmas.YearDays.{days_before}
use Rattle.aq_reports.proofs.daily.pm10_sheet.pm10_rows.Given as goal

abbrev pub invariant-loop-part : goal.invariant-loop-part
invariant-loop-part g l = l.rows ≡ map (pm10_row (g.S.Years.office l.source) l.site) (days_before l.year l.part)
