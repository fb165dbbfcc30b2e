use Rattle.std.proofs.Common.{◌≡◌, ◌++◌, List, ap, ◌∙◌, arith}
use Rattle.aq_rules.specs.Listed.Completeness.{ListedMonth}
use Rattle.aq_series.specs.OfficeView.{office_of}
use Rattle.aq_listed.proofs.MonthRows.{row_of, rows_before, rows_more, year_rows}
use Rattle.aq_listed.proofs.monitor_months.add_months.Goals as goal

pub loop-month-preserved : goal.loop-month-preserved
loop-month-preserved g c =
    let office = office_of c.args.registry.now c.args.shelf.now in
    let monitor = c.args.monitor.now in
    let month = c.loop-month.month in
    let row : ListedMonth = record { poc = monitor.poc; month = month; counts = c.month_counts-counts.result } in
    let is : row ≡ row_of office c.args.year monitor c.args.duration month = λ i. record { poc = monitor.poc; month = month; counts = c.month_counts-counts.ensures i } in
    rows_more office c.args.year monitor c.args.duration c.args.rows.now c.loop-month.rows c.push.new.self month row (omega (arith, c.loop-month.auto.month)) c.loop-month.invariant c.in_ok-push.ensures.ok is

pub returns : goal.returns
returns g c eligible =
    let office = office_of c.args.registry.now c.args.shelf.now in
    let monitor = c.args.monitor.now in
    let end : c.loop-month.month ≡ 13 = omega (arith, c.loop-month-test.false, c.loop-month.auto.month-end) in
    c.loop-month.invariant
    ∙ ap (λ month. c.args.rows.now ++ rows_before office c.args.year monitor c.args.duration month) end
    ∙ ap (λ (l : List ListedMonth). c.args.rows.now ++ l) (year_rows office c.args.year monitor c.args.duration eligible)
