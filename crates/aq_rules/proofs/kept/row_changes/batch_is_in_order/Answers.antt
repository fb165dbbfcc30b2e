use Rattle.aq_rules.proofs.BatchOrder.{batch-in_order, load_row-last}
use Rattle.aq_rules.proofs.kept.row_changes.batch_is_in_order.Goals as goal

pub returns-clause-order : goal.returns-clause-order
returns-clause-order c office number digest body valid = batch-in_order office valid number digest body

pub returns-clause-last : goal.returns-clause-last
returns-clause-last c office number digest body h = load_row-last office digest body number h
