use Rattle.aq_journal.proofs.Moments.{quiet_one}
use Rattle.aq_journal.proofs.calls.read_into.Goals as goal

pub returns-clause-quiet : goal.returns-clause-quiet
returns-clause-quiet g c = quiet_one g.D.Disk g.met.D.Disk.counts_now c.args.disk.now c.read.new.self c.read.ensures.same c.read.ensures.crash c.read.ensures.time
