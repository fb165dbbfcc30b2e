use Rattle.aq_rules.proofs.Critical.{critical-greatest}
use Rattle.aq_rules.proofs.areas.critical_value.a_critical_value_is_the_greatest.Goals as goal

pub returns : goal.returns
returns c = critical-greatest
