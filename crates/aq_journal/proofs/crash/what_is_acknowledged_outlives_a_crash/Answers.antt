use Rattle.aq_journal.proofs.Outliving.{outlives}
use Rattle.aq_journal.proofs.crash.what_is_acknowledged_outlives_a_crash.Goals as goal

pub returns : goal.returns
returns g c test calls = outlives test g.D.Disk g.met.D.Disk.only_now calls c.args.keeper.now
