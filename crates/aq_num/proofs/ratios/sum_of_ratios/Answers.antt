use Rattle.std.proofs.Common.{ℕ, ◌<◌, ◌∙◌, ℤ, pos, FitsSigned, take, length, get_or, ap, refl, arith}
use Rattle.std.specs.Int.{w32}
use Rattle.std.proofs.lemmas.Int.{ints, to_z-of_z}
use Rattle.std.proofs.lemmas.List.{take_more, take_all}
use Rattle.aq_num.proofs.Sums.{limits-at, units-of, num-push, den-push}
use Rattle.aq_num.specs.Fractions.{sum_of_fractions}
use Rattle.aq_num.proofs.ratios.sum_of_ratios.Goals as goal

pub with_ratio-sum-requires-clause-num_small : goal.with_ratio-sum-requires-clause-num_small
with_ratio-sum-requires-clause-num_small c =
    let limits = limits-at c.args.parts.now c.loop-total.total-index c.requires.counts c.requires.sums c.told-parts in
    rw c.loop-total.invariant.num (omega arith)

pub with_ratio-sum-requires-clause-den_small : goal.with_ratio-sum-requires-clause-den_small
with_ratio-sum-requires-clause-den_small c =
    let limits = limits-at c.args.parts.now c.loop-total.total-index c.requires.counts c.requires.sums c.told-parts in
    rw c.loop-total.invariant.den (omega arith)

pub loop-total-preserved : goal.loop-total-preserved
loop-total-preserved c =
    let parts = c.args.parts.now in
    let i = c.loop-total.total-index in
    let none : ℤ × ℕ = (pos 0, 0) in
    let inside : i < length parts = omega arith in
    let more = take_more parts i none inside in
    let small = c.requires.sums i none inside in
    let fits : FitsSigned w32 (get_or parts i none).0 = omega (arith, ints) in
    let total = to_z-of_z w32 (get_or parts i none).0 fits in
    let num = c.with_ratio-sum.ensures.num in
    let den = c.with_ratio-sum.ensures.den in
    let so_far_num = c.loop-total.invariant.num in
    let so_far_den = c.loop-total.invariant.den in
    let pushed_num = ap (λ xs. (sum_of_fractions xs).0) more ∙ num-push (take i parts) (get_or parts i none) in
    let pushed_den = ap (λ xs. pos (sum_of_fractions xs).1) more ∙ ap pos (den-push (take i parts) (get_or parts i none)) in
    record { num = cc; den = rw (den, so_far_den, pushed_den) refl }

pub returns-clause-units : goal.returns-clause-units
returns-clause-units c =
    let whole = take_all c.loop-total.total-index c.args.parts.now (omega arith) in
    λ d divide. rw (c.loop-total.invariant.num, c.loop-total.invariant.den, whole) (units-of d c.args.parts.now divide)

pub returns-clause-positive : goal.returns-clause-positive
returns-clause-positive c =
    let limits = limits-at c.args.parts.now c.loop-total.total-index c.requires.counts c.requires.sums c.told-parts in
    rw c.loop-total.invariant.den (omega (arith, ints))

pub returns-clause-den_small : goal.returns-clause-den_small
returns-clause-den_small c =
    let limits = limits-at c.args.parts.now c.loop-total.total-index c.requires.counts c.requires.sums c.told-parts in
    rw c.loop-total.invariant.den (omega (arith, ints))

pub returns-clause-num_small : goal.returns-clause-num_small
returns-clause-num_small c =
    let limits = limits-at c.args.parts.now c.loop-total.total-index c.requires.counts c.requires.sums c.told-parts in
    rw c.loop-total.invariant.num (omega arith)

pub returns-clause-within : goal.returns-clause-within
returns-clause-within c =
    let limits = limits-at c.args.parts.now c.loop-total.total-index c.requires.counts c.requires.sums c.told-parts in
    rw (c.loop-total.invariant.num, c.loop-total.invariant.den) (omega arith)
