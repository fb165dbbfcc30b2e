use Rattle.std.proofs.Common.{◌≡◌, ◌+◌, sym, pos, ◌+ℤ◌, ◌*ℤ◌, length, replicate}
use Rattle.std.proofs.lemmas.Int.{to_z-of_z}
use Rattle.std.proofs.lemmas.List.{length-replicate}
use Rattle.aq_rules.specs.Lists.{total}
use Rattle.aq_verdict.proofs.Copied.{copies-fit, total-copies, is_mean-filled}
use Rattle.aq_verdict.proofs.quarterly.mean_with.Goals as goal

pub overflow_add-result : goal.overflow_add-result
overflow_add-result c =
    let fits = copies-fit c.args.quarter.now c.args.copies.value c.sum.result c.args.copies.number c.scheduled.ensures.facts c.requires.value c.requires.number c.sum.ensures in
    rw c.from.ensures (simp (to_z-of_z, fits.value, fits.count, fits.copied, fits.own) fits.both)

pub returns-clause-mean : goal.returns-clause-mean
returns-clause-mean c =
    let q = c.args.quarter.now in
    let v = c.args.copies.value in
    let n = c.args.copies.number in
    let fits = copies-fit q v c.sum.result n c.scheduled.ensures.facts c.requires.value c.requires.number c.sum.ensures in
    let first : c.sum.result +ℤ (v *ℤ pos n) ≡ q.sum +ℤ total (replicate n v) = (λ i. c.sum.ensures i +ℤ sym (total-copies n v) i) in
    let second : c.days.result + n ≡ q.net_days + length (replicate n v) = (λ i. c.days.ensures i + sym (length-replicate n v) i) in
    rw c.from.ensures (simp (to_z-of_z, fits.value, fits.count, fits.copied, fits.own, fits.both) (λ i. (first i, second i)))

pub returns-clause-each : goal.returns-clause-each
returns-clause-each c =
    let q = c.args.quarter.now in
    let v = c.args.copies.value in
    let n = c.args.copies.number in
    let fits = copies-fit q v c.sum.result n c.scheduled.ensures.facts c.requires.value c.requires.number c.sum.ensures in
    rw c.from.ensures
    (simp (to_z-of_z, fits.value, fits.count, fits.copied, fits.own, fits.both)
    (is_mean-filled q v c.sum.result n c.days.result c.scheduled.ensures.facts c.requires.value c.requires.number c.sum.ensures c.days.ensures))
