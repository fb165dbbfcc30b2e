use Rattle.aq_rules.proofs.WellFormedAreas.{decisive-well_formed, area-well_formed, sites-well_formed}
use Rattle.aq_rules.proofs.shown.well_formed.sheets_of_areas_are_well_formed.Goals as goal

pub returns : goal.returns
returns c = record { decisive = decisive-well_formed; area = area-well_formed; sites = sites-well_formed }
