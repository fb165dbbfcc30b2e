use Rattle.std.proofs.Common.{◌∙◌, pos, ◌*ℤ◌, FitsSigned, rules}
use Rattle.std.specs.Int.{w32}
use Rattle.std.proofs.lemmas.Int.{to_z-of_z}
use Rattle.aq_base.specs.Decimal.{half_up}
use Rattle.aq_verdict.proofs.Numbers.{mean-fits}
use Rattle.aq_verdict.proofs.Sums.{counts-of, sums-of}
use Rattle.aq_verdict.proofs.means.mean_of.Goals as goal

pub sum_of_ratios-sum-requires-clause-counts : goal.sum_of_ratios-sum-requires-clause-counts
sum_of_ratios-sum-requires-clause-counts c = counts-of c.args.means.now c.requires.days c.requires.each

pub sum_of_ratios-sum-requires-clause-sums : goal.sum_of_ratios-sum-requires-clause-sums
sum_of_ratios-sum-requires-clause-sums c = sums-of c.args.means.now c.requires.each

pub rounded-requires-clause-low : goal.rounded-requires-clause-low
rounded-requires-clause-low c =
    let sum = c.sum_of_ratios-sum.ensures in
    let fits = mean-fits c.sum_of_ratios-sum.result.num c.sum_of_ratios-sum.result.den c.args.number sum.positive sum.den_small sum.within c.requires.some c.requires.few in
    rw c.from.ensures (simp (to_z-of_z, fits.above, fits.below, fits.count, fits.product) fits.low)

pub rounded-requires-clause-high : goal.rounded-requires-clause-high
rounded-requires-clause-high c =
    let sum = c.sum_of_ratios-sum.ensures in
    let fits = mean-fits c.sum_of_ratios-sum.result.num c.sum_of_ratios-sum.result.den c.args.number sum.positive sum.den_small sum.within c.requires.some c.requires.few in
    rw c.from.ensures (simp (to_z-of_z, fits.above, fits.below, fits.count, fits.product) fits.high)

pub returns : goal.returns
returns c =
    let sum = c.sum_of_ratios-sum.ensures in
    let fits = mean-fits c.sum_of_ratios-sum.result.num c.sum_of_ratios-sum.result.den c.args.number sum.positive sum.den_small sum.within c.requires.some c.requires.few in
    let gives = simp (to_z-of_z, fits.above, fits.below, fits.count, fits.product) at (rw c.from.ensures at c.rounded.ensures) in
    let rounds : FitsSigned w32 c.rounded.result = search rules in
    simp to_z-of_z (gives ∙ (λ i. half_up (sum.num i) (pos c.args.number *ℤ sum.den i)))
