use Rattle.aq_rules.proofs.Ranked.{ranked-moved, ranked-falls}
use Rattle.aq_rules.proofs.lists.ranked_values_are_sorted_downwards.Goals as goal

pub returns-clause-values : goal.returns-clause-values
returns-clause-values c = ranked-moved

pub returns-clause-falls : goal.returns-clause-falls
returns-clause-falls c = ranked-falls
