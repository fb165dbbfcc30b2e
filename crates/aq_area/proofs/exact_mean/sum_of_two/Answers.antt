use Rattle.std.proofs.lemmas.Int.{to_z-of_z}
use Rattle.aq_area.proofs.Sums.{two-fit}
use Rattle.aq_area.proofs.exact_mean.sum_of_two.Goals as goal

pub returns-clause-value : goal.returns-clause-value
returns-clause-value c =
    let fits = two-fit c.args.before.num c.args.last.num c.args.before.den c.args.last.den c.requires.before.some c.requires.before.few c.requires.before.within c.requires.last.some c.requires.last.few c.requires.last.within in
    rw (c.product.ensures.value, c.product-2.ensures.value, c.product-3.ensures.value)
    (simp (to_z-of_z, fits.num_before, fits.num_last, fits.den_before, fits.den_last, fits.first, fits.second, fits.both, fits.den) fits.value)

pub returns-clause-range : goal.returns-clause-range
returns-clause-range c =
    let fits = two-fit c.args.before.num c.args.last.num c.args.before.den c.args.last.den c.requires.before.some c.requires.before.few c.requires.before.within c.requires.last.some c.requires.last.few c.requires.last.within in
    rw (c.product.ensures.value, c.product-2.ensures.value, c.product-3.ensures.value)
    (simp (to_z-of_z, fits.num_before, fits.num_last, fits.den_before, fits.den_last, fits.first, fits.second, fits.both, fits.den) (record { some = fits.some; few = fits.few; within = fits.within }))
