use Rattle.aq_desk.proofs.Serving.{served_exact}
use Rattle.aq_desk.proofs.Tables.{failed_exact, kept_exact, one_exact}
use Rattle.aq_desk.proofs.command.told_runs_are_exact.Goals as goal

pub returns-clause-kept : goal.returns-clause-kept
returns-clause-kept c = kept_exact

pub returns-clause-failed : goal.returns-clause-failed
returns-clause-failed c = failed_exact

pub returns-clause-one : goal.returns-clause-one
returns-clause-one c = one_exact

pub returns-clause-served : goal.returns-clause-served
returns-clause-served c = served_exact
