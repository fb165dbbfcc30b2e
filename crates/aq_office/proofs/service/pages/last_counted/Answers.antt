use Rattle.aq_office.proofs.ServiceLemmas.Standing.{last_over}
use Rattle.aq_office.proofs.service.pages.last_counted.Goals as goal

pub returns : goal.returns
returns g c = last_over c.args.book.now c.registry.result.now c.shelf.result.now c.registry.ensures c.shelf.ensures c.last_day.result c.last_day.ensures
