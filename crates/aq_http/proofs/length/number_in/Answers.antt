use Rattle.std.proofs.Common.{arith, sym}
use Rattle.aq_http.proofs.Lengths.{too_many_digits}
use Rattle.aq_http.proofs.length.number_in.Goals as goal

pub returns-then-digits-gt-MOST_DIGITS-clause-value : goal.returns-then-digits-gt-MOST_DIGITS-clause-value
returns-then-digits-gt-MOST_DIGITS-clause-value c = sym (too_many_digits c.args.digits.now c.requires (omega arith))
