use Rattle.std.proofs.Common.{arith}
use Rattle.aq_cal.proofs.Lengths.{whole_quarter, quarter_range}
use Rattle.aq_cal.proofs.spans.quarter_span.Goals as goal

pub overflow_sub-result : goal.overflow_sub-result
overflow_sub-result c =
    let first = rw (c.number.ensures.value, c.number-2.ensures.value) at c.first_of_month-first.ensures in
    let last = rw (c.number.ensures.value, c.number-2.ensures.value) at c.last_of_month-last.ensures in
    omega (arith, first, last, whole_quarter c.args.quarter, quarter_range c.args.quarter)

pub overflow_cast-result : goal.overflow_cast-result
overflow_cast-result c =
    let first = rw (c.number.ensures.value, c.number-2.ensures.value) at c.first_of_month-first.ensures in
    let last = rw (c.number.ensures.value, c.number-2.ensures.value) at c.last_of_month-last.ensures in
    omega (arith, first, last, whole_quarter c.args.quarter, quarter_range c.args.quarter)

pub returns-clause-days : goal.returns-clause-days
returns-clause-days c =
    let first = rw (c.number.ensures.value, c.number-2.ensures.value) at c.first_of_month-first.ensures in
    let last = rw (c.number.ensures.value, c.number-2.ensures.value) at c.last_of_month-last.ensures in
    omega (arith, first, last, whole_quarter c.args.quarter, quarter_range c.args.quarter)

pub returns-clause-days_range : goal.returns-clause-days_range
returns-clause-days_range c =
    let first = rw (c.number.ensures.value, c.number-2.ensures.value) at c.first_of_month-first.ensures in
    let last = rw (c.number.ensures.value, c.number-2.ensures.value) at c.last_of_month-last.ensures in
    omega (arith, first, last, whole_quarter c.args.quarter, quarter_range c.args.quarter)
