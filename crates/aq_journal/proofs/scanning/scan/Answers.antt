use Rattle.std.proofs.lemmas.Result.{err_from_is_err_and}
use Rattle.aq_journal.proofs.Journals.{read_other}
use Rattle.aq_journal.proofs.Scans.{stops_at, read_more, read_all, next_found}
use Rattle.aq_journal.proofs.scanning.scan.Goals as goal

pub returns-in_default : goal.returns-in_default
returns-in_default c = read_other c.args.file.now c.requires c.in_default.ensures.cases

pub returns-in_err-batch : goal.returns-in_err-batch
returns-in_err-batch c =
    let p = err_from_is_err_and c.from_residual.result c.from_residual.ensures.1 in
    rw (p.1, p.2) (stops_at c.in_err-batch.field-0.0 c.args.file.now c.loop.tables c.loop.counter c.loop.cursor.rest.now c.requires c.loop-test.true c.loop.invariant c.in_err-batch.ensures)

pub loop-preserved : goal.loop-preserved
loop-preserved c =
    let next = next_found _ c.in_ok-batch.field-0 c.in-Some-2.batch c.loop.cursor.rest.now c.next_batch.new.cursor.rest.now c.in-Some-2.is c.in_ok-batch.ensures in
    read_more c.args.file.now c.loop.tables c.apply.new.tables c.loop.counter c.loop.cursor.rest.now c.next_batch.new.cursor.rest.now _ c.loop.invariant next.0 next.1 c.in_ok-apply.ensures

pub returns : goal.returns
returns c = read_all c.args.file.now c.loop.tables c.loop.counter c.loop.cursor.rest.now c.loop-test.false c.loop.invariant
