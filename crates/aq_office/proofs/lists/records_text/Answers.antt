use Rattle.std.specs.Prelude.{vec_items}
use Rattle.aq_office.proofs.Listing.{records_over}
use Rattle.aq_office.proofs.lists.records_text.Goals as goal

pub returns : goal.returns
returns c = records_over c.args.book.now c.registry.result.now c.registry.ensures vec_items c.records.result c.records.ensures
