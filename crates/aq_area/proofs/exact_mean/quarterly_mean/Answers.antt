use Rattle.std.proofs.Common.{◌≤◌, FitsSigned, rules, arith}
use Rattle.std.specs.Int.{w32}
use Rattle.std.proofs.lemmas.Bool.Decides.{nat_tests}
use Rattle.std.proofs.lemmas.Int.{to_z-of_z}
use Rattle.aq_area.proofs.Sizes.{quarterly-size}
use Rattle.aq_area.proofs.exact_mean.quarterly_mean.Goals as goal

pub returns-clause-each : goal.returns-clause-each
returns-clause-each c =
    let fits : FitsSigned w32 c.sum.result = search rules in
    let some : 1 ≤ c.args.quarter.now.net_days = grind (arith, nat_tests) in
    rw (to_z-of_z w32 c.sum.result fits, c.sum.ensures, c.days-days.ensures) (quarterly-size c.args.quarter.now c.scheduled.ensures.facts some)
