use Rattle.std.proofs.Common.{◌≡◌, ◌+◌, ◌∙◌, map, ap, arith}
use Rattle.std.specs.List.{range_with_len}
use Rattle.aq_rules.specs.Listed.Daily.{pm25_day_cells}
use Rattle.aq_rules.specs.Ozone.OzoneYear.{days_of}
use Rattle.aq_reports.specs.Daily.DayRows.{pm25_row}
use Rattle.aq_reports.proofs.DailyLemmas.Walks.{rows-more}
use Rattle.aq_reports.proofs.daily.pm25_sheet.pm25_rows.Goals as goal

pub loop-place-preserved : goal.loop-place-preserved
loop-place-preserved g c =
    let row = pm25_row (g.S.Years.office c.args.source.now) c.args.site in
    let first = c.year_span-first.result.0 in
    let at : first + c.loop-place.place ≡ c.new-day.result = omega (arith, c.new-day.ensures, c.number.ensures.value) in
    rows-more row first c.loop-place.place c.loop-place.rows c.push.new.self c.new-day.result c.in_ok-pm25_day_cells.field-0 at c.loop-place.invariant c.in_ok-push.ensures.ok
    (c.in_ok-pm25_day_cells.ensures ∙ ap pm25_day_cells c.pm25_day-row.ensures)

pub returns : goal.returns
unfolding days_of
returns g c =
    let row = pm25_row (g.S.Years.office c.args.source.now) c.args.site in
    let all : c.loop-place.place ≡ c.year_span-first.result.1 = omega (arith, c.loop-place-test.false, c.loop-place.auto.place-end) in
    c.loop-place.invariant ∙ (λ i. map row (range_with_len (c.year_span-first.ensures.first i) ((all ∙ c.year_span-first.ensures.days) i)))
