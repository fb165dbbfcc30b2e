use Rattle.aq_journal.proofs.Moments.{put_failed, put_synced, put_done}
use Rattle.aq_journal.proofs.calls.put.Goals as goal

pub returns-in_err-write_at-clause-images : goal.returns-in_err-write_at-clause-images
returns-in_err-write_at-clause-images g c = put_failed g.D.Disk c.args.at c.args.bytes.now c.args.disk.now c.write_at.new.self c.in_err-write_at.ensures.failed c.write_at.ensures.crash c.write_at.ensures.time

pub returns-clause-images : goal.returns-clause-images
returns-clause-images g c =
    put_synced g.D.Disk c.args.at c.args.bytes.now c.args.disk.now c.write_at.new.self c.sync.new.self c.in_ok-write_at.ensures.written c.write_at.ensures.crash c.write_at.ensures.time c.sync.ensures.same c.sync.ensures.crash c.sync.ensures.time

pub returns-clause-done : goal.returns-clause-done
returns-clause-done g c =
    put_done g.D.Disk g.met.D.Disk.once_synced_less c.args.at c.args.bytes.now c.args.disk.now c.write_at.new.self c.sync.new.self c.sync.result c.in_ok-write_at.ensures.written c.sync.ensures.same c.in_ok-write_at.ensures.stands c.sync.ensures.synced
