use Rattle.std.proofs.Common.{◌∙◌, rules, FitsSigned}
use Rattle.std.specs.Int.{w32, w128}
use Rattle.std.proofs.lemmas.Int.{to_z-of_z}
use Rattle.aq_rules.specs.Areas.CriticalValue.{below}
use Rattle.aq_area.proofs.Sums.{left-fits}
use Rattle.aq_area.proofs.exact_mean.below_half_more.Goals as goal

pub returns : goal.returns
returns c =
    let fits = left-fits c.args.level c.args.sum.num c.args.sum.den c.requires.level c.requires.sum in
    let left : FitsSigned w128 c.doubled_left.result = search rules in
    let result : FitsSigned w32 c.below.result = search rules in
    let left_is = simp (to_z-of_z, c.ranges.level) at c.doubled_left.ensures.value in
    let gives = simp (to_z-of_z, left, fits.den_fits, fits.two) at c.below.ensures in
    to_z-of_z w32 c.below.result result ∙ gives ∙ (λ i. below (left_is i) (fits.two_is i))
