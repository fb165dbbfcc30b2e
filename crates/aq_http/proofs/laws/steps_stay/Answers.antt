use Rattle.aq_http.proofs.Fronts.{head_step_stays}
use Rattle.aq_http.proofs.Steps.{one_step, step_stays}
use Rattle.aq_http.proofs.laws.steps_stay.Goals as goal

pub returns-clause-head : goal.returns-clause-head
returns-clause-head c input more step due is = head_step_stays input more step due is

pub returns-clause-step : goal.returns-clause-step
returns-clause-step c input more step due is = step_stays input more step due is

pub returns-clause-whole : goal.returns-clause-whole
returns-clause-whole c input request step whole is = one_step input request step whole is
