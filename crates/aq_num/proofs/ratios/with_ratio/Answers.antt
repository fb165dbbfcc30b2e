use Rattle.std.proofs.Common.{◌∙◌, arith}
use Rattle.std.specs.Int.{w32}
use Rattle.std.proofs.lemmas.Int.{ints, to_z-of_z}
use Rattle.aq_num.proofs.Sums.{step-fits}
use Rattle.aq_num.proofs.ratios.with_ratio.Goals as goal

pub overflow_add-result : goal.overflow_add-result
overflow_add-result c =
    let total_is = c.from.ensures ∙ to_z-of_z w32 c.args.total c.ranges.total in
    let fits = step-fits c.args.sum.num c.args.sum.den c.args.total c.args.count (omega arith) (omega arith) (omega (arith, ints)) (omega arith) in
    rw (c.from-count.ensures, total_is) (simp (to_z-of_z, fits.old_num, fits.old_den, fits.one_total, fits.one_count, fits.first, fits.second) fits.new_num)

pub overflow_mul-result-3 : goal.overflow_mul-result-3
overflow_mul-result-3 c =
    let fits = step-fits c.args.sum.num c.args.sum.den c.args.total c.args.count (omega arith) (omega arith) (omega (arith, ints)) (omega arith) in
    rw c.from-count.ensures (simp (to_z-of_z, fits.old_den, fits.one_count) fits.new_den)

pub returns-clause-num : goal.returns-clause-num
returns-clause-num c =
    let total_is = c.from.ensures ∙ to_z-of_z w32 c.args.total c.ranges.total in
    let fits = step-fits c.args.sum.num c.args.sum.den c.args.total c.args.count (omega arith) (omega arith) (omega (arith, ints)) (omega arith) in
    rw (c.from-count.ensures, total_is) (simp (to_z-of_z, fits.old_num, fits.old_den, fits.one_total, fits.one_count, fits.first, fits.second, fits.new_num))

pub returns-clause-den : goal.returns-clause-den
returns-clause-den c =
    let fits = step-fits c.args.sum.num c.args.sum.den c.args.total c.args.count (omega arith) (omega arith) (omega (arith, ints)) (omega arith) in
    rw c.from-count.ensures (simp (to_z-of_z, fits.old_den, fits.one_count, fits.new_den))
