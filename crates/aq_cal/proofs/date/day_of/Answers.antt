use Rattle.std.proofs.Common.{◌≡◌, pos, to_z, of_z, w8, w16, arith, sym, ◌∙◌, true≢false}
use Rattle.std.proofs.lemmas.Int.{to_z_pos}
use Rattle.aq_cal.proofs.Dates.{no_day, a_day, kept, at_ok, ymd_number}
use Rattle.jiff_core.specs.Date.{IsYmd}
use Rattle.jiff_core.proofs.SignedLemmas.{signed_arith}
use Rattle.aq_cal.proofs.date.day_of.Goals as goal

pub returns-in_err-date : goal.returns-in_err-date
returns-in_err-date c =
    let year = to_z_pos w16 c.args.year (omega arith) in
    let month = kept c.try_from.result c.args.month c.in_ok-month.month c.try_from.ensures c.in_ok-month.ensures.value in
    let day = kept c.try_from-2.result c.args.day c.in_ok-day.day c.try_from-2.ensures c.in_ok-day.ensures.value in
    let succeeds = rw (year, month, day) at c.new.ensures.succeeds in
    let none = no_day c.args.year c.args.month c.args.day (λ is. true≢false (sym (succeeds.1 is) ∙ sym c.in_err-date.ensures.variant)) in
    c.from_residual-in_err-date.ensures ∙ none

pub number_of-requires : goal.number_of-requires
number_of-requires c =
    let year = to_z_pos w16 c.args.year (omega arith) in
    let parts = at_ok (IsYmd (to_z w16 c.args.year) (to_z w8 (of_z w8 c.in_ok-month.month)) (to_z w8 (of_z w8 c.in_ok-day.day))) c.new.result c.in_ok-date.date c.in_ok-date.ensures.value c.new.ensures.value in
    let same : c.in_ok-date.date.year ≡ pos c.args.year = parts.0 ∙ year in
    rw same (omega (arith, signed_arith))

pub returns : goal.returns
returns c =
    let year = to_z_pos w16 c.args.year (omega arith) in
    let month = kept c.try_from.result c.args.month c.in_ok-month.month c.try_from.ensures c.in_ok-month.ensures.value in
    let day = kept c.try_from-2.result c.args.day c.in_ok-day.day c.try_from-2.ensures c.in_ok-day.ensures.value in
    let parts = at_ok (IsYmd (to_z w16 c.args.year) (to_z w8 (of_z w8 c.in_ok-month.month)) (to_z w8 (of_z w8 c.in_ok-day.day))) c.new.result c.in_ok-date.date c.in_ok-date.ensures.value c.new.ensures.value in
    let same = rw (year, month, day) at parts in
    let is = (rw (year, month, day) at c.new.ensures.succeeds).0 (sym c.in_ok-date.ensures.variant) in
    rw (c.number_of.ensures ∙ ymd_number c.args.year c.args.month c.args.day c.in_ok-date.date same) (a_day c.args.year c.args.month c.args.day (omega arith) (omega arith) is)
