use Rattle.aq_rules.proofs.EventsRise.{events-rise}
use Rattle.aq_rules.proofs.what_if.events_come_by_rising_number.Goals as goal

pub returns : goal.returns
returns c office site pollutant keys = events-rise office site pollutant keys.records
