use Rattle.std.proofs.Common.{arith}
use Rattle.aq_cal.proofs.Lengths.{new_year, whole_year}
use Rattle.aq_cal.proofs.spans.year_span.Goals as goal

pub overflow_sub-result : goal.overflow_sub-result
overflow_sub-result c = omega (arith, new_year c.args.year, whole_year c.args.year)

pub returns-clause-first : goal.returns-clause-first
returns-clause-first c = omega (arith, new_year c.args.year)

pub returns-clause-days : goal.returns-clause-days
returns-clause-days c = omega (arith, new_year c.args.year, whole_year c.args.year)

pub returns-clause-days_range : goal.returns-clause-days_range
returns-clause-days_range c = grind (arith, new_year c.args.year, whole_year c.args.year)
