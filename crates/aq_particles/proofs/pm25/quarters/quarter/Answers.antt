use Rattle.std.proofs.Common.{ap, ◌∙◌}
use Rattle.aq_rules.specs.Kept.Summaries.{summary_of_quarter}
use Rattle.aq_particles.proofs.Pm25Lemmas.OneSite.{quarter-of-site}
use Rattle.aq_particles.proofs.pm25.quarters.quarter.Goals as goal

pub returns : goal.returns
returns g c =
    c.quarter.ensures ∙ c.tally_of.ensures.summary
    ∙ ap summary_of_quarter (quarter-of-site c.args.registry.now c.args.site c.next_poc.ensures.valid c.args.shelf.now c.args.quarter (c.a_quarter_holds_the_days_of_its_span.ensures c.args.quarter))
