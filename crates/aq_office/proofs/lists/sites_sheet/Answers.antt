use Rattle.aq_office.proofs.Listing.{sites_over}
use Rattle.aq_office.proofs.lists.sites_sheet.Goals as goal

pub returns : goal.returns
returns c = sites_over c.args.book.now c.registry.result.now c.registry.ensures c.sites.result c.sites.ensures
