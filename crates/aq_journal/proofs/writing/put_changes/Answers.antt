use Rattle.std.proofs.lemmas.Result.{err_from_is_err_and}
use Rattle.aq_journal.proofs.Sizes.{exceeds}
use Rattle.aq_journal.proofs.writing.put_changes.Goals as goal

pub returns-in_err-put_change : goal.returns-in_err-put_change
returns-in_err-put_change c =
    let p = err_from_is_err_and c.from_residual.result c.from_residual.ensures.1 in
    rw (p.1, p.2) (exceeds c.in_err-put_change.field-0.0 c.args.batch.now c.loop-place.place c.index-batch-place.result c.loop-place-test.true c.index-batch-place.is c.in_err-put_change.ensures)
