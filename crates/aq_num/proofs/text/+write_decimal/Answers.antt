use Rattle.std.proofs.Common.{arith}
use Rattle.std.proofs.lemmas.Grind.{common_steps}
use Rattle.std.proofs.lemmas.Fmt.{decimal_step, decimal_digit}
use Rattle.aq_num.proofs.text.+write_decimal.Goals as goal
use Rattle.aq_num.proofs.text.+write_decimal.Goals.{then-number-ge10+in_ok-write_decimal, else-number-ge10}

pub returns-clause-ok : goal.returns-clause-ok
returns-clause-ok t c =
    elim c.if-number-ge10.branch [
      | then-number-ge10+in_ok-write_decimal w ↦ grind (arith, common_steps, decimal_step)
      | else-number-ge10 w ↦ grind (arith, common_steps, decimal_digit)
    ]
