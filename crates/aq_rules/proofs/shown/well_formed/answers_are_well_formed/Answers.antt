use Rattle.aq_rules.proofs.WellFormed.{reply-well_formed}
use Rattle.aq_rules.proofs.WellFormedOzone.{windows-well_formed, days-well_formed}
use Rattle.aq_rules.proofs.WellFormedQuarters.{pm25-well_formed, pm10-well_formed}
use Rattle.aq_rules.proofs.WellFormedValues.{value-well_formed, report-well_formed}
use Rattle.aq_rules.proofs.shown.well_formed.answers_are_well_formed.Goals as goal

pub returns : goal.returns
returns c = record { reply = reply-well_formed; windows = λ office site day valid asked. windows-well_formed office site day valid; days = days-well_formed; fine = pm25-well_formed; coarse = λ office site year valid asked. pm10-well_formed office site year asked; value = value-well_formed; report = report-well_formed }
