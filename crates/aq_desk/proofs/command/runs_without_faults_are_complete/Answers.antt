use Rattle.aq_desk.proofs.Faultless.{complete, complete_served}
use Rattle.aq_desk.proofs.command.runs_without_faults_are_complete.Goals as goal

pub returns-clause-prints : goal.returns-clause-prints
returns-clause-prints c = complete

pub returns-clause-serves : goal.returns-clause-serves
returns-clause-serves c = complete_served
