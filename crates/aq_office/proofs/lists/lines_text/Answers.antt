use Rattle.std.specs.Prelude.{vec_items}
use Rattle.aq_office.proofs.Listing.{lines_over}
use Rattle.aq_office.proofs.lists.lines_text.Goals as goal

pub returns : goal.returns
returns g c =
    lines_over c.args.book.now c.registry.result.now c.registry.ensures c.shelf.result.now c.shelf.ensures c.args.site c.args.pollutant c.args.year vec_items c.lines.result c.lines.ensures
