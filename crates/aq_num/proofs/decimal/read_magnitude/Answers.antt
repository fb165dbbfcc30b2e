use Rattle.std.proofs.Common.{arith}
use Rattle.std.proofs.lemmas.Grind.{common_steps}
use Rattle.aq_num.proofs.Scan.{scan-is, scan-none}
use Rattle.aq_num.proofs.decimal.read_magnitude.Goals as goal

pub returns-else-byte-eq46 : goal.returns-else-byte-eq46
returns-else-byte-eq46 c =
    grind (arith, common_steps, scan-is, scan-none)

pub returns-then-has_digit : goal.returns-then-has_digit
returns-then-has_digit c =
    grind (arith, common_steps, scan-is)

pub returns-else-has_digit : goal.returns-else-has_digit
returns-else-has_digit c =
    grind (arith, common_steps, scan-is)
