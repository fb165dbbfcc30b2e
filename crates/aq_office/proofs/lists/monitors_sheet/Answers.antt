use Rattle.aq_office.proofs.Listing.{monitors_over}
use Rattle.aq_office.proofs.lists.monitors_sheet.Goals as goal

pub returns : goal.returns
returns g c =
    monitors_over c.args.book.now c.registry.result.now c.registry.ensures c.shelf.result.now c.shelf.ensures c.args.site c.monitors.result c.monitors.ensures
