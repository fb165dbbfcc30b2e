use Rattle.std.proofs.Common.{◌∙◌, sym}
use Rattle.aq_rows.proofs.Following.{record-taken, record-refused}
use Rattle.aq_rows.proofs.walk.Walk.take_record.Goals as goal

pub returns-in-Record-clause-taken : goal.returns-in-Record-clause-taken
returns-in-Record-clause-taken c =
    record-taken c.args.self.now c.args.row.now c.in-Some.entry (sym c.in_ok-entry.ensures.value ∙ c.in-Some.is) c.requires c.in-Record.is
    c.put_record.result c.put_record.new.registry c.put_record.ensures.ok c.put_record.ensures.office

pub returns-in-Record-clause-refused : goal.returns-in-Record-clause-refused
returns-in-Record-clause-refused c =
    record-refused c.args.self.now c.args.row.now c.in-Some.entry (sym c.in_ok-entry.ensures.value ∙ c.in-Some.is) c.requires c.in-Record.is
    c.put_record.result c.put_record.ensures.refused
