use Rattle.aq_desk.proofs.Drafting.{changes_are}
use Rattle.aq_desk.proofs.draft.text_of_changes.Goals as goal

pub returns-in-OfLines-clause-text : goal.returns-in-OfLines-clause-text
returns-in-OfLines-clause-text c = changes_are c.args.first c.args.last c.args.body.now c.args.book.now c.in_ok-text.field-0 _ c.in_ok-text.ensures c.in-OfLines.is

pub returns-in-RefusedAt-clause-refused : goal.returns-in-RefusedAt-clause-refused
returns-in-RefusedAt-clause-refused c = changes_are c.args.first c.args.last c.args.body.now c.args.book.now c.in_ok-text.field-0 _ c.in_ok-text.ensures c.in-RefusedAt.is
