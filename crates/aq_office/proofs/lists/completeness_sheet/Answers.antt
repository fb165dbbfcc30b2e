use Rattle.aq_office.proofs.Listing.{completeness_over}
use Rattle.aq_office.proofs.lists.completeness_sheet.Goals as goal

pub returns : goal.returns
returns g c =
    completeness_over c.args.book.now c.registry.result.now c.registry.ensures c.shelf.result.now c.shelf.ensures c.args.site c.args.pollutant c.args.year c.completeness.result c.completeness.ensures
