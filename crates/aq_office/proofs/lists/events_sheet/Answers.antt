use Rattle.aq_office.proofs.Listing.{events_over}
use Rattle.aq_office.proofs.lists.events_sheet.Goals as goal

pub returns : goal.returns
returns g c =
    events_over c.args.book.now c.registry.result.now c.registry.ensures c.shelf.result.now c.shelf.ensures c.args.site c.events.result c.events.ensures
