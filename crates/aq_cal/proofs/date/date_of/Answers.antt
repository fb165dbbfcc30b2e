use Rattle.std.proofs.Common.{◌≡◌, ◌≤◌, pos, ◌∙◌, ap, arith, rules, FitsSigned, w64}
use Rattle.std.proofs.lemmas.Int.{to_z-of_z}
use Rattle.jiff.proofs.SpanFacts.{date_add-days, can_add-days}
use Rattle.aq_base.specs.declared.day.TheConstants.{LAST_DAY}
use Rattle.aq_cal.proofs.Dates.{back, has_day}
use Rattle.aq_cal.proofs.date.date_of.Goals as goal

-- what a span of that many days asks of a date, and what it gives
pub unwrap-requires : goal.unwrap-requires
unwrap-requires c =
    let fits : FitsSigned w64 c.from.result = search rules in
    let only = simp to_z-of_z at c.days.ensures in
    let number : c.from.result ≡ pos c.args.day = c.from.ensures ∙ ap pos c.number.ensures.value in
    let small : c.args.day ≤ LAST_DAY = omega arith in
    let day = has_day c.first_date.result c.args.day c.first_date.ensures small in
    c.checked_add.ensures.succeeds.1 ((can_add-days c.first_date.result c.from.result c.days.result only).1 (rw number day))

pub returns : goal.returns
returns c =
    let fits : FitsSigned w64 c.from.result = search rules in
    let only = simp to_z-of_z at c.days.ensures in
    let number : c.from.result ≡ pos c.args.day = c.from.ensures ∙ ap pos c.number.ensures.value in
    let small : c.args.day ≤ LAST_DAY = omega arith in
    let added = rw c.unwrap.ensures at c.checked_add.ensures.value in
    let later = added ∙ date_add-days c.first_date.result c.from.result c.days.result only in
    let is = back c.first_date.result c.unwrap.result c.args.day c.first_date.ensures small (rw number at later) in
    record { year = is.0; number = is.1 }
