use Rattle.aq_journal.proofs.Moments.{quiet_none}
use Rattle.aq_journal.proofs.Enduring.{left_held, quiet_endures}
use Rattle.aq_journal.proofs.journal_keeper.JournalKeeperKeeper.commit.Goals as goal

pub returns-clause-left : goal.returns-clause-left
returns-clause-left g c = left_held g.D.Disk g.met.D.Disk.reads_image g.met.D.Disk.only_now c.commit-made.new.disk c.commit-made.new.gate c.commit-made.ensures.held

pub returns-then-not-self-clause-crash : goal.returns-then-not-self-clause-crash
returns-then-not-self-clause-crash g c =
    let disk = c.self.inside.disk in
    λ still. rw (← c.self.view_is) (quiet_endures g.D.Disk g.met.D.Disk.reads_image g.met.D.Disk.only_now disk disk c.self.inside.gate _ (quiet_none g.D.Disk disk) c.self.invariant)

pub returns-then-not-self-clause-left : goal.returns-then-not-self-clause-left
returns-then-not-self-clause-left g c = left_held g.D.Disk g.met.D.Disk.reads_image g.met.D.Disk.only_now c.self.inside.disk c.self.inside.gate c.self.invariant
