use Rattle.std.proofs.Common.{◌++◌, refl}
use Rattle.std.specs.Prelude.{decimal}
use Rattle.aq_desk.proofs.Telling.{writes_cut, writes_then}
use Rattle.aq_desk.proofs.messages.write_counted.Goals as goal

pub returns-in_err-write_all : goal.returns-in_err-write_all
returns-in_err-write_all g c =
    let first = c.args.before.now in
    let number = decimal c.args.number in
    let last = c.args.behind.now in
    writes_cut (first ++ number) last _ _ _ c.from_residual.result c.from_residual.ensures.0
    (writes_cut first number _ _ c.in_err-write_all.field-0.0 _ refl c.in_err-write_all.ensures)

pub returns-in_err-write_number : goal.returns-in_err-write_number
returns-in_err-write_number g c =
    let first = c.args.before.now in
    let number = decimal c.args.number in
    let last = c.args.behind.now in
    writes_cut (first ++ number) last _ _ c.in_err-write_number.field-0.0 c.from_residual-in_err-write_number.result c.from_residual-in_err-write_number.ensures.0
    (writes_then first number _ _ _ c.in_ok-write_all.field-0 _ c.in_ok-write_all.ensures c.in_err-write_number.ensures)

pub returns : goal.returns
returns g c =
    let first = c.args.before.now in
    let number = decimal c.args.number in
    let last = c.args.behind.now in
    writes_then (first ++ number) last _ _ _ c.in_ok-write_number.field-0 _
    (writes_then first number _ _ _ c.in_ok-write_all.field-0 _ c.in_ok-write_all.ensures c.in_ok-write_number.ensures)
    c.write_all-2.ensures
