use Rattle.aq_rules.proofs.MembersOnce.{members-rise, members-once}
use Rattle.aq_rules.proofs.shown.json.members_stand_once_and_in_order.Goals as goal

pub returns-clause-order : goal.returns-clause-order
returns-clause-order c = members-rise

pub returns-clause-once : goal.returns-clause-once
returns-clause-once c = members-once
