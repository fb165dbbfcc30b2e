use Rattle.aq_cal.proofs.Dates.{days_between, number_small}
use Rattle.std.proofs.Common.{rules}
use Rattle.aq_cal.proofs.date.number_of.Goals as goal

pub overflow_cast-until : goal.overflow_cast-until
overflow_cast-until c =
    let until = rw (c.to_plain-2.ensures, c.to_plain.ensures) at c.until.ensures.value in
    let days = days_between c.first_date.result c.args.date c.until.result c.first_date.ensures c.requires until in
    let small = number_small c.args.date c.requires in
    rw days (search rules)

pub new-requires : goal.new-requires
new-requires c =
    let until = rw (c.to_plain-2.ensures, c.to_plain.ensures) at c.until.ensures.value in
    let days = days_between c.first_date.result c.args.date c.until.result c.first_date.ensures c.requires until in
    rw days (number_small c.args.date c.requires)

pub returns : goal.returns
returns c =
    let until = rw (c.to_plain-2.ensures, c.to_plain.ensures) at c.until.ensures.value in
    let days = days_between c.first_date.result c.args.date c.until.result c.first_date.ensures c.requires until in
    rw days at c.new.ensures
