use Rattle.aq_office.proofs.Assuming.{events_over}
use Rattle.aq_office.proofs.what_if.events_of.Goals as goal

pub returns-clause-events : goal.returns-clause-events
returns-clause-events g c =
    events_over c.args.book.now c.registry.result.now c.shelf.result.now c.registry.ensures c.shelf.ensures c.args.standard c.args.site c.args.year c.decisive.result c.decisive.ensures.events
