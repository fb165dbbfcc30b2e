use Rattle.std.proofs.Common.{◌+ℤ◌, ◌∙◌, arith, FitsSigned}
use Rattle.std.specs.Int.{w32, w64}
use Rattle.std.proofs.lemmas.Int.{ints, to_z-of_z}
use Rattle.aq_verdict.proofs.rounded.sum_of_three.Goals as goal

pub returns : goal.returns
returns c =
    let a_is = c.from.ensures ∙ to_z-of_z w32 c.args.a c.ranges.a in
    let b_is = c.from-2.ensures ∙ to_z-of_z w32 c.args.b c.ranges.b in
    let c_is = c.from-3.ensures ∙ to_z-of_z w32 c.args.c c.ranges.c in
    let a : FitsSigned w64 c.args.a = omega (arith, ints) in
    let b : FitsSigned w64 c.args.b = omega (arith, ints) in
    let c_ : FitsSigned w64 c.args.c = omega (arith, ints) in
    let two : FitsSigned w64 (c.args.a +ℤ c.args.b) = omega (arith, ints) in
    let three : FitsSigned w64 (c.args.a +ℤ c.args.b +ℤ c.args.c) = omega (arith, ints) in
    rw (a_is, b_is, c_is) (simp to_z-of_z)
