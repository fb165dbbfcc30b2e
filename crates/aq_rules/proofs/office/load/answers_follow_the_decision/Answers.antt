use Rattle.aq_rules.proofs.Loads.{posted-decided}
use Rattle.aq_rules.proofs.office.load.answers_follow_the_decision.Goals as goal

pub returns : goal.returns
returns c office number digest body few = posted-decided office number digest body few
