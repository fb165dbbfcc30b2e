use Rattle.aq_rules.specs.Ozone.OzoneYear.{ozone_year}
use Rattle.aq_registry.specs.Registry.{office_with}
use Rattle.aq_design.proofs.combined.pair.PairOzoneSource.season.Goals as goal

pub returns-clause-some : goal.returns-clause-some
unfolding ozone_year
returns-clause-some c =
    let pair = c.args.self.now in
    (c.ozone_years_keep_their_facts.ensures (office_with pair.registry.now) pair.site c.args.year c.next_poc.ensures.valid).some_season
