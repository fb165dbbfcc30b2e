use Rattle.std.proofs.lemmas.Result.{err_from_is_err_and}
use Rattle.aq_journal.proofs.Scans.{stops_sized, stops_batch, behind_is}
use Rattle.aq_journal.proofs.scanning.batch_behind.Goals as goal

pub returns-in_err-body-clause-err : goal.returns-in_err-body-clause-err
returns-in_err-body-clause-err c =
    let p = err_from_is_err_and c.from_residual.result c.from_residual.ensures.1 in
    rw (p.1, p.2) (λ most. stops_sized c.in_err-body.field-0.0 most c.args.cursor.now.rest.now c.in_err-body.ensures)

pub returns-in_err-batch_in-clause-err : goal.returns-in_err-batch_in-clause-err
returns-in_err-batch_in-clause-err c =
    let p = err_from_is_err_and c.from_residual-in_err-batch_in.result c.from_residual-in_err-batch_in.ensures.1 in
    rw (p.1, p.2) (λ most. stops_batch c.in_err-batch_in.field-0.0 most c.args.cursor.now.rest.now c.in_ok-body.body.now c.sized.new.self.rest.now c.in_ok-body.ensures c.in_err-batch_in.ensures)

pub returns-clause-ok : goal.returns-clause-ok
returns-clause-ok c = behind_is c.args.cursor.now.rest.now c.in_ok-body.body.now c.sized.new.self.rest.now c.in_ok-batch_in.field-0.items c.bytes_are_below_256.ensures c.in_ok-body.ensures c.in_ok-batch_in.ensures
