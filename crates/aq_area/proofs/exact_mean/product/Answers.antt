use Rattle.std.proofs.lemmas.Int.{to_z-of_z}
use Rattle.aq_area.proofs.Sums.{product-fits, product-size}
use Rattle.aq_area.proofs.exact_mean.product.Goals as goal

pub overflow_mul-result : goal.overflow_mul-result
overflow_mul-result c = simp (to_z-of_z, c.ranges.first, c.ranges.second) (product-fits c.args.first c.args.second c.requires.first c.requires.second)

pub returns-clause-size : goal.returns-clause-size
returns-clause-size c =
    let fits = product-fits c.args.first c.args.second c.requires.first c.requires.second in
    simp (to_z-of_z, c.ranges.first, c.ranges.second, fits) (product-size c.args.first c.args.second c.requires.first c.requires.second)

pub returns-clause-value : goal.returns-clause-value
returns-clause-value c =
    let fits = product-fits c.args.first c.args.second c.requires.first c.requires.second in
    simp (to_z-of_z, c.ranges.first, c.ranges.second, fits)
