use Rattle.aq_tables.proofs.Numbers.{parts_of}
use Rattle.aq_tables.proofs.number.keys_are_those_of_their_numbers.Goals as goal

pub returns-clause-key : goal.returns-clause-key
returns-clause-key c site pollutant poc hour number is = let parts = parts_of site pollutant poc hour number is in (parts.site_is, parts.pollutant_is, parts.poc_is, parts.hour_is)

pub returns-clause-fits : goal.returns-clause-fits
returns-clause-fits c site pollutant poc hour number is = (parts_of site pollutant poc hour number is).fits
