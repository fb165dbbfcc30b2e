use Rattle.aq_rules.proofs.Damage.{damage-first, damage-none}
use Rattle.aq_rules.proofs.Rewritten.{no-damage}
use Rattle.aq_rules.proofs.kept.tables.first_damaged_row_is_named.Goals as goal

pub returns-clause-place : goal.returns-clause-place
returns-clause-place c = damage-first

pub returns-clause-none : goal.returns-clause-none
returns-clause-none c rows = (damage-none rows, no-damage rows)
