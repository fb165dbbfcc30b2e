use Rattle.aq_office.proofs.ServiceLemmas.Standing.{last_at_over}
use Rattle.aq_office.proofs.service.pages.last_at_counted.Goals as goal

pub returns : goal.returns
returns g c =
    last_at_over c.args.book.now c.registry.result.now c.shelf.result.now c.registry.ensures c.shelf.ensures c.args.site c.args.pollutant c.last_day_at.result c.last_day_at.ensures.day
