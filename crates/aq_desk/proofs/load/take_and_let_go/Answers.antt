use Rattle.std.proofs.Common.{refl}
use Rattle.aq_desk.proofs.load.take_and_let_go.Goals as goal

pub returns-clause-told : goal.returns-clause-told
returns-clause-told g c = rw c.let_go.ensures c.take-text.ensures.told

pub returns-clause-keeper_failed : goal.returns-clause-keeper_failed
returns-clause-keeper_failed g c = rw c.let_go.ensures c.take-text.ensures.keeper_failed

pub returns-clause-gone : goal.returns-clause-gone
returns-clause-gone g c = rw c.let_go.ensures refl
