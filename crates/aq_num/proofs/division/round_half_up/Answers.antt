use Rattle.std.proofs.Common.{rules, arith, pos, ◌+ℤ◌, ◌*ℤ◌, FitsSigned}
use Rattle.std.specs.Int.{w128}
use Rattle.std.proofs.lemmas.Int.{ints, to_z-of_z}
use Rattle.aq_num.proofs.division.round_half_up.Goals as goal

pub returns : goal.returns
returns c =
    let fits : FitsSigned w128 c.div_euclid.result = search rules in
    let doubled : FitsSigned w128 (pos 2 *ℤ c.args.num) = omega (arith, ints) in
    let raised : FitsSigned w128 ((pos 2 *ℤ c.args.num) +ℤ c.args.den) = omega (arith, ints) in
    let divisor : FitsSigned w128 (pos 2 *ℤ c.args.den) = omega (arith, ints) in
    let num : FitsSigned w128 c.args.num = c.ranges.num in
    let den : FitsSigned w128 c.args.den = c.ranges.den in
    let gives = simp to_z-of_z at c.div_euclid.ensures in
    simp to_z-of_z gives
