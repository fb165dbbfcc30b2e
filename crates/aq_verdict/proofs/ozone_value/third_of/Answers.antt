use Rattle.std.proofs.Common.{pos, ◌+ℤ◌, arith, FitsSigned}
use Rattle.std.specs.Int.{w64}
use Rattle.std.proofs.lemmas.Int.{ints, to_z-of_z}
use Rattle.aq_base.specs.Decimal.{truncated}
use Rattle.aq_verdict.proofs.Numbers.{third-fits}
use Rattle.aq_verdict.proofs.ozone_value.third_of.Goals as goal

pub overflow_cast-result : goal.overflow_cast-result
overflow_cast-result c =
    let third = third-fits c.args.a c.args.b c.args.c c.ranges.a c.ranges.b c.ranges.c in
    let three : FitsSigned w64 (c.args.a +ℤ c.args.b +ℤ c.args.c) = omega (arith, ints) in
    let sum_is = simp (to_z-of_z, c.ranges.a, c.ranges.b, c.ranges.c) at c.sum_of_three.ensures in
    let gives = simp to_z-of_z at (rw sum_is at c.trunc_div.ensures) in
    let wide : FitsSigned w64 (truncated (c.args.a +ℤ c.args.b +ℤ c.args.c) (pos 3)) = omega (arith, ints) in
    rw gives (simp to_z-of_z third)

pub returns : goal.returns
returns c =
    let third = third-fits c.args.a c.args.b c.args.c c.ranges.a c.ranges.b c.ranges.c in
    let three : FitsSigned w64 (c.args.a +ℤ c.args.b +ℤ c.args.c) = omega (arith, ints) in
    let sum_is = simp (to_z-of_z, c.ranges.a, c.ranges.b, c.ranges.c) at c.sum_of_three.ensures in
    let gives = simp to_z-of_z at (rw sum_is at c.trunc_div.ensures) in
    let wide : FitsSigned w64 (truncated (c.args.a +ℤ c.args.b +ℤ c.args.c) (pos 3)) = omega (arith, ints) in
    rw gives (simp to_z-of_z)
