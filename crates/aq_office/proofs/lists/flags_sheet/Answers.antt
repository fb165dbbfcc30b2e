use Rattle.aq_office.proofs.Listing.{flags_over}
use Rattle.aq_office.proofs.lists.flags_sheet.Goals as goal

pub returns : goal.returns
returns g c =
    flags_over c.args.book.now c.registry.result.now c.registry.ensures c.shelf.result.now c.shelf.ensures c.args.site c.args.pollutant c.args.year c.flags.result c.flags.ensures
