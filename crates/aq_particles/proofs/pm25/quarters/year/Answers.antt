use Rattle.std.proofs.Common.{◌∙◌}
use Rattle.aq_particles.proofs.Pm25Lemmas.OneSite.{year-of-site}
use Rattle.aq_particles.proofs.pm25.quarters.year.Goals as goal

pub returns : goal.returns
returns g c =
    c.year_of.ensures
    ∙ year-of-site c.args.registry.now c.args.site c.next_poc.ensures.valid c.args.shelf.now c.args.year c.a_quarter_holds_the_days_of_its_span.ensures
