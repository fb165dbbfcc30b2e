use Rattle.aq_rules.proofs.Ranked.{ranked-in_any_order}
use Rattle.aq_rules.proofs.lists.ranking_forgets_the_order.Goals as goal

pub returns : goal.returns
returns c = ranked-in_any_order
