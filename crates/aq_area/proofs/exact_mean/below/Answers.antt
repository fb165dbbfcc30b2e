use Rattle.std.proofs.lemmas.Int.{to_z-of_z}
use Rattle.aq_area.proofs.Sums.{quotient-fits}
use Rattle.aq_area.proofs.exact_mean.below.Goals as goal

pub returns : goal.returns
returns c =
    let fits = quotient-fits c.args.num c.args.den c.requires.some c.requires.few c.requires.size in
    let quotient = simp (to_z-of_z, c.ranges.num, c.ranges.den, fits.less) at c.div_euclid.ensures in
    rw quotient (simp (to_z-of_z, fits.wide, fits.narrow))
