use Rattle.std.proofs.Common.{arith}
use Rattle.aq_listed.proofs.MonthDays.{month_within_profile}
use Rattle.aq_listed.proofs.month_days.month_span.Goals as goal

pub returns-clause-in_profile : goal.returns-clause-in_profile
returns-clause-in_profile c =
    let within = month_within_profile c.args.year c.args.month c.requires.year c.requires.month in
    omega (arith, within, c.first_of_month-first.ensures, c.days_in_month-days.ensures.days)
