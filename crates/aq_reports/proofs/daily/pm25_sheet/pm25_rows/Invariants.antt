use Rattle.std.proofs.Common.{◌≡◌, map}
use Rattle.std.specs.List.{range_with_len}
use Rattle.aq_reports.specs.Daily.DayRows.{pm25_row}
use Rattle.aq_reports.proofs.daily.pm25_sheet.pm25_rows.Given as goal

abbrev pub invariant-loop-place : goal.invariant-loop-place
invariant-loop-place g l = l.rows ≡ map (pm25_row (g.S.Years.office l.source) l.site) (range_with_len l.first l.place)
