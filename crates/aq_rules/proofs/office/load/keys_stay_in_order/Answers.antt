use Rattle.aq_rules.proofs.Loads.{KeysRise-after, KeysRise-load}
use Rattle.aq_rules.proofs.office.load.keys_stay_in_order.Goals as goal

pub returns-clause-line : goal.returns-clause-line
returns-clause-line c office line rise = KeysRise-after office line rise

pub returns-clause-load : goal.returns-clause-load
returns-clause-load c office number digest body rise = KeysRise-load office number digest body rise
