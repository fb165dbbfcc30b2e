use Rattle.aq_rules.proofs.WellFormedDays.{daily-well_formed, highest-well_formed}
use Rattle.aq_rules.proofs.WellFormedLists.{sites-well_formed, monitors-well_formed, events-well_formed, flags-well_formed, loads-well_formed, completeness-well_formed}
use Rattle.aq_rules.proofs.shown.well_formed.sheets_of_lists_are_well_formed.Goals as goal

pub returns : goal.returns
returns c = record { sites = sites-well_formed; monitors = monitors-well_formed; events = events-well_formed; flags = flags-well_formed; loads = loads-well_formed; daily = daily-well_formed; highest = highest-well_formed; completeness = completeness-well_formed }
