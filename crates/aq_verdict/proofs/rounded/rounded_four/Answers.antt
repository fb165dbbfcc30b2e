use Rattle.std.proofs.Common.{pos, ◌+ℤ◌, ◌∙◌, sym, ap, rules, arith, FitsSigned}
use Rattle.std.specs.Int.{w32, w64}
use Rattle.std.proofs.lemmas.Int.{ints, to_z-of_z}
use Rattle.aq_base.specs.Decimal.{half_up}
use Rattle.aq_verdict.proofs.Numbers.{zero-plus}
use Rattle.aq_verdict.proofs.rounded.rounded_four.Goals as goal

pub rounded_over-requires-clause-low : goal.rounded_over-requires-clause-low
rounded_over-requires-clause-low c =
    let sum : FitsSigned w64 c.sum_of_four.result = rw c.sum_of_four.ensures (omega (arith, ints)) in
    simp to_z-of_z (omega (arith, ints, c.sum_of_four.ensures))

pub rounded_over-requires-clause-high : goal.rounded_over-requires-clause-high
rounded_over-requires-clause-high c =
    let sum : FitsSigned w64 c.sum_of_four.result = rw c.sum_of_four.ensures (omega (arith, ints)) in
    simp to_z-of_z (omega (arith, ints, c.sum_of_four.ensures))

pub returns : goal.returns
returns c =
    let sum : FitsSigned w64 c.sum_of_four.result = rw c.sum_of_four.ensures (omega (arith, ints)) in
    let sum_is = simp (to_z-of_z, c.ranges.a, c.ranges.b, c.ranges.c, c.ranges.d) at c.sum_of_four.ensures in
    let gives = simp to_z-of_z at c.rounded_over.ensures in
    let fits : FitsSigned w32 c.rounded_over.result = search rules in
    simp to_z-of_z (gives ∙ ap (λ z. half_up z (pos c.args.den)) (sum_is ∙ ap (λ z. z +ℤ c.args.b +ℤ c.args.c +ℤ c.args.d) (sym (zero-plus c.args.a))))
