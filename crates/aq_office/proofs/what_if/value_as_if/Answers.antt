use Rattle.aq_office.proofs.Assuming.{refused_over, value_over}
use Rattle.aq_office.proofs.what_if.value_as_if.Goals as goal

pub returns-clause-value : goal.returns-clause-value
returns-clause-value g c =
    value_over c.args.book.now c.registry.result.now c.shelf.result.now c.registry.ensures c.shelf.ensures c.args.standard c.args.site c.args.year
    c.args.assumed.now c.what_if.result c.what_if.ensures.value

pub returns-clause-refused : goal.returns-clause-refused
returns-clause-refused g c =
    refused_over c.args.book.now c.registry.result.now c.shelf.result.now c.registry.ensures c.shelf.ensures c.args.standard c.args.site c.args.year
    c.args.assumed.now c.what_if.result c.what_if.ensures.refused
