use Rattle.aq_rules.proofs.Greatest.{greatest-is}
use Rattle.aq_rules.proofs.lists.greatest_is_one_of_the_values.Goals as goal

pub returns : goal.returns
returns c = greatest-is
