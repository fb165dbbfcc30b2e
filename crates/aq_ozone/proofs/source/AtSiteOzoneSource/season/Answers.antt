use Rattle.aq_rules.specs.Ozone.OzoneYear.{ozone_year}
use Rattle.aq_registry.specs.Registry.{office_with}
use Rattle.aq_ozone.proofs.source.AtSiteOzoneSource.season.Goals as goal

pub returns-clause-some : goal.returns-clause-some
unfolding ozone_year
returns-clause-some c =
    let at = c.args.self.now in
    (c.ozone_years_keep_their_facts.ensures (office_with at.registry.now) at.site c.args.year c.next_poc.ensures.valid).some_season
