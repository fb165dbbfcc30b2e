use Rattle.aq_registry.proofs.EntryLemmas.{last-entries}
use Rattle.aq_registry.proofs.records.last.Goals as goal

pub returns : goal.returns
returns c = last-entries c.args.part c.next_back.new.self (c.in_ok-record.field-0-0.now, c.in_ok-record.record.now) c.in_ok-record.ensures.steps
