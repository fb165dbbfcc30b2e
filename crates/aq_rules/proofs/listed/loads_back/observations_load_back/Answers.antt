use Rattle.aq_rules.proofs.ObservationsLoadBack.{lines-back}
use Rattle.aq_rules.proofs.listed.loads_back.observations_load_back.Goals as goal

pub returns : goal.returns
returns c = lines-back
