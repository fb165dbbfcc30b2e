use Rattle.aq_rules.proofs.WellFormed.{load-well_formed, conflict-well_formed, errors-well_formed, summary-well_formed}
use Rattle.aq_rules.proofs.shown.well_formed.other_sheets_are_well_formed.Goals as goal

pub returns : goal.returns
returns c = record { load = load-well_formed; conflict = conflict-well_formed; error = errors-well_formed; summary = summary-well_formed }
