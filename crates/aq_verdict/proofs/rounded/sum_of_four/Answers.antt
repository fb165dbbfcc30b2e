use Rattle.std.proofs.Common.{◌+ℤ◌, ◌∙◌, arith, FitsSigned}
use Rattle.std.specs.Int.{w32, w64}
use Rattle.std.proofs.lemmas.Int.{ints, to_z-of_z}
use Rattle.aq_verdict.proofs.rounded.sum_of_four.Goals as goal

pub overflow_add-result : goal.overflow_add-result
overflow_add-result c =
    let sum_is = simp (to_z-of_z, c.ranges.a, c.ranges.b, c.ranges.c) at c.sum_of_three.ensures in
    let d_is = c.from.ensures ∙ to_z-of_z w32 c.args.d c.ranges.d in
    let d : FitsSigned w64 c.args.d = omega (arith, ints) in
    let three : FitsSigned w64 (c.args.a +ℤ c.args.b +ℤ c.args.c) = omega (arith, ints) in
    let four : FitsSigned w64 (c.args.a +ℤ c.args.b +ℤ c.args.c +ℤ c.args.d) = omega (arith, ints) in
    rw (d_is, sum_is) (simp to_z-of_z four)

pub returns : goal.returns
returns c =
    let sum_is = simp (to_z-of_z, c.ranges.a, c.ranges.b, c.ranges.c) at c.sum_of_three.ensures in
    let d_is = c.from.ensures ∙ to_z-of_z w32 c.args.d c.ranges.d in
    let d : FitsSigned w64 c.args.d = omega (arith, ints) in
    let three : FitsSigned w64 (c.args.a +ℤ c.args.b +ℤ c.args.c) = omega (arith, ints) in
    let four : FitsSigned w64 (c.args.a +ℤ c.args.b +ℤ c.args.c +ℤ c.args.d) = omega (arith, ints) in
    rw (d_is, sum_is) (simp to_z-of_z)
