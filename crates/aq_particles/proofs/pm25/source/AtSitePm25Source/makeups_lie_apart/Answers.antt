use Rattle.aq_particles.proofs.Pm25Lemmas.OneSite.{credits-apart}
use Rattle.aq_particles.proofs.pm25.source.AtSitePm25Source.makeups_lie_apart.Goals as goal

pub returns : goal.returns
returns c =
    credits-apart c.args.self.now.registry.now c.args.self.now.site c.next_poc.ensures.valid c.args.self.now.shelf.now c.args._quarter (c.a_quarter_holds_the_days_of_its_span.ensures c.args._quarter)
