use Rattle.std.proofs.Common.{refl}
use Rattle.aq_desk.proofs.Causes.{tells_nothing}
use Rattle.aq_desk.proofs.command.finish.Goals as goal

pub returns-in-Ok-clause-status : goal.returns-in-Ok-clause-status
returns-in-Ok-clause-status g c = rw c.in-Ok.is refl

pub returns-in-Ok-clause-message : goal.returns-in-Ok-clause-message
returns-in-Ok-clause-message g c = rw c.in-Ok.is (tells_nothing _)

pub returns-in-Err-clause-status : goal.returns-in-Err-clause-status
returns-in-Err-clause-status g c = rw c.in-Err.is c.tell.ensures.status

pub returns-in-Err-clause-message : goal.returns-in-Err-clause-message
returns-in-Err-clause-message g c = rw c.in-Err.is c.tell.ensures.message
