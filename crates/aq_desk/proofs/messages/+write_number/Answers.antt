use Rattle.std.proofs.Common.{◌+◌, ◌/◌, ◌%◌, [], ◌∷◌}
use Rattle.std.specs.Prelude.{decimal}
use Rattle.aq_desk.proofs.Telling.{first_digit, last_digit, writes_cut, writes_same, writes_then}
use Rattle.aq_desk.proofs.messages.+write_number.Goals as goal

pub returns-then-number-lt10 : goal.returns-then-number-lt10
returns-then-number-lt10 g t c =
    let n = c.args.number in
    writes_same ((48 + n % 10) ∷ []) _ _ _ c.write_all.result (first_digit n c.if-number-lt10.true) c.write_all.ensures

pub returns-in_err-write_number : goal.returns-in_err-write_number
returns-in_err-write_number g t c =
    let n = c.args.number in
    writes_same _ _ _ _ c.from_residual.result (last_digit n c.if-number-lt10.false c.ranges.number.fits)
    (writes_cut (decimal (n / 10)) ((48 + n % 10) ∷ []) _ _ c.in_err-write_number.field-0.0 _ c.from_residual.ensures.0 c.in_err-write_number.ensures)

pub returns : goal.returns
returns g t c =
    let n = c.args.number in
    writes_same _ _ _ _ c.write_all-2.result (last_digit n c.if-number-lt10.false c.ranges.number.fits)
    (writes_then (decimal (n / 10)) ((48 + n % 10) ∷ []) _ _ _ c.in_ok-write_number.field-0 _ c.in_ok-write_number.ensures c.write_all-2.ensures)
