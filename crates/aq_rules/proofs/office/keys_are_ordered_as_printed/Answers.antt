use Rattle.aq_rules.proofs.KeyOrder.{printed_order, printed_same}
use Rattle.aq_rules.proofs.office.keys_are_ordered_as_printed.Goals as goal

pub returns-clause-order : goal.returns-clause-order
returns-clause-order c a b p q = printed_order a b p q

pub returns-clause-same : goal.returns-clause-same
returns-clause-same c a b p q kinds texts = printed_same a b p q kinds texts
