use Rattle.std.proofs.Common.{arith}
use Rattle.std.proofs.lemmas.Grind.{common_steps}
use Rattle.aq_num.proofs.Digits.{last_digits-none, last_digits-more}
use Rattle.aq_num.proofs.text.+write_last_digits.Goals as goal

pub returns-in_ok-push-clause-ok : goal.returns-in_ok-push-clause-ok
returns-in_ok-push-clause-ok t c = grind (arith, common_steps, last_digits-more)

pub returns-else-count-gt0-clause-ok : goal.returns-else-count-gt0-clause-ok
returns-else-count-gt0-clause-ok t c = grind (arith, common_steps, last_digits-none)
