use Rattle.std.proofs.Common.{sym}
use Rattle.aq_rows.proofs.PutLast.{put-last, put-refused, put-valid}
use Rattle.aq_rows.proofs.walk.put_record.Goals as goal

pub returns-in-Ok-clause-ok : goal.returns-in-Ok-clause-ok
returns-in-Ok-clause-ok c =
    put-last c.args.registry.now c.args.entry.now c.record_line.result c.apply.new.self c.record_line.ensures c.in-Ok.ensures.after (sym c.if-not-comes_last.ensures)

pub returns-in-Ok-clause-office : goal.returns-in-Ok-clause-office
returns-in-Ok-clause-office c =
    put-valid c.args.registry.now c.args.entry.now c.record_line.result c.apply.new.self c.record_line.ensures c.in-Ok.ensures.after (sym c.if-not-comes_last.ensures)
    c.requires.valid c.requires.spelled c.in-Ok.ensures.unbroken

pub returns-in-Err-Broken-clause-refused : goal.returns-in-Err-Broken-clause-refused
returns-in-Err-Broken-clause-refused c =
    put-refused c.args.registry.now c.args.entry.now c.record_line.result c.in-Err-Broken.field-0 c.in-Err-Broken.field-0-0 c.record_line.ensures c.in-Err-Broken.field-0-is c.in-Err-Broken.ensures.refused
