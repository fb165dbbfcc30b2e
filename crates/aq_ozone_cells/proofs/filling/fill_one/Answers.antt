use Rattle.std.proofs.Common.{arith}
use Rattle.aq_series.specs.OfficeView.{office_of}
use Rattle.aq_ozone_cells.proofs.FillLemmas.{day-filled, day-left, same-itself}
use Rattle.aq_ozone_cells.proofs.Unobserved.{absent-day, absent-hours}
use Rattle.aq_ozone_cells.proofs.filling.fill_one.Goals as goal

pub returns-clause-filled : goal.returns-clause-filled
returns-clause-filled g c rows are =
    day-filled c.args.registry.now c.args.cells.now c.fill_day.new.self c.settle_day.new.self c.args.site c.args.day c.args.hours.now
    c.in_ok-fill_day.ensures.hours c.in_ok-fill_day.ensures.averages c.in_ok-fill_day.ensures.days
    c.in_ok-settle_day.ensures.days c.in_ok-settle_day.ensures.hours c.in_ok-settle_day.ensures.averages rows (omega (arith, c.number.ensures.value, c.number.ensures.range)) are

pub returns-clause-others : goal.returns-clause-others
returns-clause-others g c =
    day-left c.args.registry.now c.args.cells.now c.fill_day.new.self c.settle_day.new.self c.args.site c.args.day c.args.hours.now
    c.in_ok-fill_day.ensures.hours c.in_ok-fill_day.ensures.averages c.in_ok-fill_day.ensures.days
    c.in_ok-settle_day.ensures.days c.in_ok-settle_day.ensures.hours c.in_ok-settle_day.ensures.averages

pub returns-then-is_unread-clause-filled : goal.returns-then-is_unread-clause-filled
returns-then-is_unread-clause-filled g c rows are =
    absent-day (office_of c.args.registry.now rows) c.args.site c.args.day (omega (arith, c.number.ensures.value, c.number.ensures.range))
    (absent-hours (office_of c.args.registry.now rows) c.args.site c.args.day c.args.hours.now are (c.is_unread.ensures.hours c.if-is_unread.true))
    (c.is_unread.ensures.approved c.if-is_unread.true) c.args.cells.now (c.is_unread.ensures.kept c.if-is_unread.true)

pub returns-then-is_unread-clause-others : goal.returns-then-is_unread-clause-others
returns-then-is_unread-clause-others g c other number off = same-itself c.args.cells.now other number
