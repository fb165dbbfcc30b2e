use Rattle.std.proofs.Common.{◌≡◌, ◌≤◌, ◌+◌, ◌*◌, ◌^◌, ◌∙◌, sym, take, arith}
use Rattle.std.proofs.lemmas.Grind.{common_steps}
use Rattle.std.proofs.lemmas.List.{take_all}
use Rattle.std.proofs.lemmas.List.Folds.{list_all_more}
use Rattle.std.specs.Char.{is_ascii_digit}
use Rattle.aq_rd.proofs.DigitSteps.{digit_value-digit, next_number, too_large, value_grows, whole_number}
use Rattle.aq_rd.proofs.digits.any_number.Goals as goal

pub returns-in_err-tens : goal.returns-in_err-tens
returns-in_err-tens c =
    let large : 2 ^ 64 ≤ c.loop-digit.number * 10 = grind (arith, common_steps) in
    let grows = value_grows c.args.text.now c.loop-digit.number c.loop-digit.digit-index c.loop-digit-test.true c.loop-digit.invariant.value in
    c.from_residual.ensures ∙ too_large c.args.text.now (omega (arith, large, grows))

pub returns-in_err-number : goal.returns-in_err-number
returns-in_err-number c =
    let digit = c.if-not-is_ascii_digit.ensures.cases in
    let tens : c.in_ok-tens.tens ≡ c.loop-digit.number * 10 = grind (arith, common_steps) in
    let large : 2 ^ 64 ≤ c.in_ok-tens.tens + c.from.result = grind (arith, common_steps) in
    let grows = value_grows c.args.text.now c.loop-digit.number c.loop-digit.digit-index c.loop-digit-test.true c.loop-digit.invariant.value in
    let value = digit_value-digit _ digit.0 digit.1 in
    c.from_residual-in_err-number.ensures ∙ too_large c.args.text.now (omega (arith, large, tens, grows, value, digit.0, digit.1, c.from.ensures))

pub loop-digit-preserved : goal.loop-digit-preserved
loop-digit-preserved c =
    let digit = c.if-not-is_ascii_digit.ensures.cases in
    let tens : c.in_ok-tens.tens ≡ c.loop-digit.number * 10 = grind (arith, common_steps) in
    let sum : c.in_ok-number.number ≡ c.in_ok-tens.tens + c.from.result = grind (arith, common_steps) in
    record {
      value = sum ∙ next_number c.args.text.now c.loop-digit.number c.loop-digit.digit-index c.in_ok-tens.tens c.from.result c.loop-digit-test.true c.loop-digit.invariant.value digit.0 digit.1 c.from.ensures tens;
      small = grind (arith, common_steps);
      digits = rw (list_all_more is_ascii_digit c.args.text.now c.loop-digit.digit-index 0 c.loop-digit-test.true, c.loop-digit.invariant.digits) (sym c.if-not-is_ascii_digit.ensures.value);
    }

pub returns : goal.returns
returns c =
    let whole : take c.loop-digit.digit-index c.args.text.now ≡ c.args.text.now = take_all c.loop-digit.digit-index c.args.text.now (omega arith) in
    whole_number c.args.text.now c.loop-digit.number (rw (sym whole) c.loop-digit.invariant.value) c.loop-digit.invariant.small (rw (sym whole) c.loop-digit.invariant.digits)
