use Rattle.std.proofs.Common.{◌∙◌, List, [], ◌∷◌, refl, ap, pos, ◌*ℤ◌, arith, FitsSigned}
use Rattle.std.specs.Int.{w128}
use Rattle.std.proofs.lemmas.Int.{ints, to_z-of_z}
use Rattle.aq_rules.specs.Particles.Means.{Fraction}
use Rattle.aq_area.proofs.Sums.{counts-more, sums-more, same-sum, few-days}
use Rattle.aq_area.proofs.exact_mean.mean_of.Goals as goal

abbrev means : (first second third fourth : Fraction) → List Fraction
means first second third fourth = first ∷ second ∷ third ∷ fourth ∷ []

pub sum_of_ratios-sum-requires-clause-counts : goal.sum_of_ratios-sum-requires-clause-counts
sum_of_ratios-sum-requires-clause-counts c = counts-more (means c.args.first c.args.second c.args.third c.args.fourth) c.requires

pub sum_of_ratios-sum-requires-clause-sums : goal.sum_of_ratios-sum-requires-clause-sums
sum_of_ratios-sum-requires-clause-sums c = sums-more (means c.args.first c.args.second c.args.third c.args.fourth) c.requires

pub returns-clause-range : goal.returns-clause-range
returns-clause-range c =
    let sum = c.sum_of_ratios-sum.ensures in
    let all = means c.args.first c.args.second c.args.third c.args.fourth in
    let den = sum.den ∙ ap (λ (s : Fraction). pos s.1) (same-sum all) in
    let small = sum.den_small in
    let small_num = sum.num_small in
    let positive = sum.positive in
    let within = sum.within in
    let few = few-days all refl c.requires in
    let fits_num : FitsSigned w128 c.sum_of_ratios-sum.result.num = omega (arith, ints, small_num) in
    let fits_den : FitsSigned w128 c.sum_of_ratios-sum.result.den = omega (arith, ints, small, positive) in
    let fits : FitsSigned w128 (pos 4 *ℤ c.sum_of_ratios-sum.result.den) = omega (arith, ints, small, positive) in
    simp (to_z-of_z, fits_num, fits_den, fits)
    (record {
      some = omega (arith, ints, positive);
      few = omega (arith, ints, den, few);
      within = omega (arith, ints, within, positive);
    })
