use Rattle.aq_journal.proofs.Moments.{quiet_same}
use Rattle.aq_journal.proofs.Enduring.{left_held, quiet_held, quiet_endures}
use Rattle.aq_journal.proofs.journal_keeper.JournalKeeperKeeper.let_go.Goals as goal

pub invariant_of-self : goal.invariant_of-self
invariant_of-self g c =
    let old = c.self.inside.disk in
    let quiet = quiet_same g.D.Disk g.met.D.Disk.counts_now old c.let_go.new.self c.let_go.ensures.same c.let_go.ensures.crash c.let_go.ensures.time in
    quiet_held g.D.Disk g.met.D.Disk.reads_image g.met.D.Disk.only_now old c.let_go.new.self c.self.inside.gate quiet c.self.invariant

pub returns-clause-crash : goal.returns-clause-crash
returns-clause-crash g c =
    let old = c.self.inside.disk in
    let quiet = quiet_same g.D.Disk g.met.D.Disk.counts_now old c.let_go.new.self c.let_go.ensures.same c.let_go.ensures.crash c.let_go.ensures.time in
    rw (← c.self.view_is) (quiet_endures g.D.Disk g.met.D.Disk.reads_image g.met.D.Disk.only_now old c.let_go.new.self c.self.inside.gate _ quiet c.self.invariant)

pub returns-clause-left : goal.returns-clause-left
returns-clause-left g c =
    let old = c.self.inside.disk in
    let quiet = quiet_same g.D.Disk g.met.D.Disk.counts_now old c.let_go.new.self c.let_go.ensures.same c.let_go.ensures.crash c.let_go.ensures.time in
    left_held g.D.Disk g.met.D.Disk.reads_image g.met.D.Disk.only_now c.let_go.new.self c.self.inside.gate
    (quiet_held g.D.Disk g.met.D.Disk.reads_image g.met.D.Disk.only_now old c.let_go.new.self c.self.inside.gate quiet c.self.invariant)
