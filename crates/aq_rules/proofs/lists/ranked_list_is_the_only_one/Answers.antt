use Rattle.aq_rules.proofs.Ranked.{ranked-only}
use Rattle.aq_rules.proofs.lists.ranked_list_is_the_only_one.Goals as goal

pub returns : goal.returns
returns c = ranked-only
