use Rattle.aq_rules.proofs.Agree.{agree-line}
use Rattle.aq_rules.proofs.lines.reading.a_value_or_a_rule.Goals as goal

pub returns : goal.returns
returns c line = agree-line line
