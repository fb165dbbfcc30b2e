use Rattle.aq_sqlite.proofs.LoadRows.{load_left}
use Rattle.aq_sqlite.proofs.Through.{kept_calling}
use Rattle.aq_sqlite.proofs.crash.acknowledged_loads_outlive_a_crash.Goals as goal

pub returns-clause-rows : goal.returns-clause-rows
returns-clause-rows g c kept calls = kept_calling g.S.Store calls kept _

pub returns-clause-loads : goal.returns-clause-loads
returns-clause-loads g c row batch before after kept held = load_left row g.S.Store before after kept _ held batch
