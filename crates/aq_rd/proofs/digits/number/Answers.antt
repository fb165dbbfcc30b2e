use Rattle.std.proofs.Common.{sym, length, arith}
use Rattle.std.proofs.lemmas.List.Folds.{list_all_more}
use Rattle.std.specs.Char.{is_ascii_digit}
use Rattle.aq_rd.proofs.DigitSteps.{next_fits, next_value, next_below}
use Rattle.aq_rd.proofs.digits.number.Goals as goal

pub overflow_mul-number : goal.overflow_mul-number
overflow_mul-number c =
    let fits = next_fits c.loop-digit.number c.loop-digit.digit-index (length c.args.text.now) c.loop-digit.invariant.small c.loop-digit-test.true c.requires in
    omega (arith, fits)

pub overflow_add-number : goal.overflow_add-number
overflow_add-number c =
    let digit = c.if-not-is_ascii_digit.ensures.cases in
    let fits = next_fits c.loop-digit.number c.loop-digit.digit-index (length c.args.text.now) c.loop-digit.invariant.small c.loop-digit-test.true c.requires in
    omega (arith, fits, digit.0, digit.1, c.from.ensures)

pub loop-digit-preserved : goal.loop-digit-preserved
loop-digit-preserved c =
    let digit = c.if-not-is_ascii_digit.ensures.cases in
    record {
      value = next_value c.args.text.now c.loop-digit.number c.loop-digit.digit-index c.from.result c.loop-digit-test.true c.loop-digit.invariant.value digit.0 digit.1 c.from.ensures;
      digits = rw (list_all_more is_ascii_digit c.args.text.now c.loop-digit.digit-index 0 c.loop-digit-test.true, c.loop-digit.invariant.digits) (sym c.if-not-is_ascii_digit.ensures.value);
      small = next_below c.loop-digit.number c.loop-digit.digit-index c.from.result c.loop-digit.invariant.small (omega (arith, digit.0, digit.1, c.from.ensures));
    }
