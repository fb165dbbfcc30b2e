use Rattle.std.proofs.Common.{unsigned_abs, w8, w16, to_z-of_z, FitsSigned, rules, sym, ap, ◌∙◌}
use Rattle.aq_base.specs.Calendar.{year_of, month_of, day_of_month}
use Rattle.aq_cal.proofs.Counts.{year_is, month_is, day_is, is_day}
use Rattle.aq_cal.proofs.date.civil_of.Goals as goal

pub returns-clause-year : goal.returns-clause-year
returns-clause-year c =
    let fits : FitsSigned w16 c.year.result = search rules in
    let is = is_day c.date_of-date.result c.date_of-date.ensures.year in
    ap unsigned_abs (to_z-of_z fits ∙ c.year.ensures) ∙ sym (year_is _ _ _ is) ∙ ap year_of c.date_of-date.ensures.number

pub returns-clause-month : goal.returns-clause-month
returns-clause-month c =
    let fits : FitsSigned w8 c.month.result = search rules in
    let is = is_day c.date_of-date.result c.date_of-date.ensures.year in
    ap unsigned_abs (to_z-of_z fits ∙ c.month.ensures) ∙ sym (month_is _ _ _ is) ∙ ap month_of c.date_of-date.ensures.number

pub returns-clause-day_of_month : goal.returns-clause-day_of_month
returns-clause-day_of_month c =
    let fits : FitsSigned w8 c.day.result = search rules in
    let is = is_day c.date_of-date.result c.date_of-date.ensures.year in
    ap unsigned_abs (to_z-of_z fits ∙ c.day.ensures) ∙ sym (day_is _ _ _ is) ∙ ap day_of_month c.date_of-date.ensures.number
