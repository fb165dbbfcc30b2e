use Rattle.aq_rules.proofs.Assuming.{assume-line}
use Rattle.aq_rules.proofs.what_if.assuming_is_what_the_line_does.Goals as goal

pub returns : goal.returns
returns c office number agreed is stands = assume-line office number agreed is stands
