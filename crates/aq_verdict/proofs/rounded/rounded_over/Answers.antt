use Rattle.std.proofs.Common.{pos, ◌∙◌, rules, arith, FitsSigned}
use Rattle.std.specs.Int.{w32, w64, w128}
use Rattle.std.proofs.lemmas.Int.{ints, to_z-of_z}
use Rattle.aq_verdict.proofs.rounded.rounded_over.Goals as goal

pub rounded-requires : goal.rounded-requires
rounded-requires c =
    let sum_is = c.from.ensures ∙ to_z-of_z w64 c.args.sum c.ranges.sum in
    let sum : FitsSigned w128 c.args.sum = omega (arith, ints) in
    let den : FitsSigned w128 (pos c.args.den) = omega (arith, ints) in
    record {
      positive = rw c.from-2.ensures (simp to_z-of_z (omega (arith, ints, c.requires.some)));
      den_small = rw c.from-2.ensures (simp to_z-of_z (omega (arith, ints)));
      low = rw (sum_is, c.from-2.ensures) (simp to_z-of_z c.requires.low);
      high = rw (sum_is, c.from-2.ensures) (simp to_z-of_z c.requires.high);
    }

pub returns : goal.returns
returns c =
    let sum_is = c.from.ensures ∙ to_z-of_z w64 c.args.sum c.ranges.sum in
    let sum : FitsSigned w128 c.args.sum = omega (arith, ints) in
    let den : FitsSigned w128 (pos c.args.den) = omega (arith, ints) in
    let gives = simp to_z-of_z at (rw (sum_is, c.from-2.ensures) at c.rounded.ensures) in
    let fits : FitsSigned w32 c.rounded.result = search rules in
    simp to_z-of_z gives
