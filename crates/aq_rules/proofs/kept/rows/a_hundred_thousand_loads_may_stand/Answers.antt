use Rattle.aq_rules.proofs.ValidLoads.{with_load-valid}
use Rattle.aq_rules.proofs.kept.rows.a_hundred_thousand_loads_may_stand.Goals as goal

pub returns-clause-room : goal.returns-clause-room
returns-clause-room c office load valid room is = with_load-valid office load valid is room
