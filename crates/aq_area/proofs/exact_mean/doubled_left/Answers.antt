use Rattle.std.proofs.Common.{◌∙◌}
use Rattle.std.specs.Int.{w32}
use Rattle.std.proofs.lemmas.Int.{to_z-of_z}
use Rattle.aq_area.proofs.Sums.{left-fits}
use Rattle.aq_area.proofs.exact_mean.doubled_left.Goals as goal

pub overflow_mul-result : goal.overflow_mul-result
overflow_mul-result c =
    let fits = left-fits c.args.level c.args.sum.num c.args.sum.den c.requires.level c.requires.sum in
    simp (to_z-of_z, fits.one) fits.twice

pub overflow_sub-result : goal.overflow_sub-result
overflow_sub-result c =
    let fits = left-fits c.args.level c.args.sum.num c.args.sum.den c.requires.level c.requires.sum in
    let level_is = c.from.ensures ∙ to_z-of_z w32 c.args.level c.ranges.level in
    rw (c.product.ensures.value, level_is) (simp (to_z-of_z, fits.level_fits, fits.twice_level, fits.odd_level, fits.den_fits, fits.three, fits.one, fits.twice, fits.first) fits.rest)

pub returns-clause-value : goal.returns-clause-value
returns-clause-value c =
    let fits = left-fits c.args.level c.args.sum.num c.args.sum.den c.requires.level c.requires.sum in
    let level_is = c.from.ensures ∙ to_z-of_z w32 c.args.level c.ranges.level in
    rw (c.product.ensures.value, level_is) (simp (to_z-of_z, fits.level_fits, fits.twice_level, fits.odd_level, fits.den_fits, fits.three, fits.one, fits.twice, fits.first, fits.rest) fits.value)

pub returns-clause-size : goal.returns-clause-size
returns-clause-size c =
    let fits = left-fits c.args.level c.args.sum.num c.args.sum.den c.requires.level c.requires.sum in
    let level_is = c.from.ensures ∙ to_z-of_z w32 c.args.level c.ranges.level in
    rw (c.product.ensures.value, level_is) (simp (to_z-of_z, fits.level_fits, fits.twice_level, fits.odd_level, fits.den_fits, fits.three, fits.one, fits.twice, fits.first, fits.rest) fits.size)
