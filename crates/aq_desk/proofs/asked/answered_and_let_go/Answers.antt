use Rattle.std.proofs.Common.{refl}
use Rattle.aq_desk.proofs.asked.answered_and_let_go.Goals as goal

pub returns-clause-told : goal.returns-clause-told
returns-clause-told g c = rw c.let_go.ensures c.answered-text.ensures.told

pub returns-clause-keeper_failed : goal.returns-clause-keeper_failed
returns-clause-keeper_failed g c = rw c.let_go.ensures c.answered-text.ensures.keeper_failed

pub returns-clause-only_migrates : goal.returns-clause-only_migrates
returns-clause-only_migrates g c = rw c.let_go.ensures c.answered-text.ensures.only_migrates

pub returns-clause-gone : goal.returns-clause-gone
returns-clause-gone g c = rw c.let_go.ensures refl
