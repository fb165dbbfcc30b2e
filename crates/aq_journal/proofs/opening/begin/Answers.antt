use Rattle.std.proofs.Common.{arith}
use Rattle.aq_journal.specs.declared.gate.Gate.TheVariants.{Shut}
use Rattle.aq_journal.proofs.Enduring.{held_if}
use Rattle.aq_journal.proofs.Opens.{begin_failed_at, begin_done_at, begin_other}
use Rattle.aq_journal.proofs.opening.begin.Goals as goal

pub returns-in_err-put-in-Unread-clause-held : goal.returns-in_err-put-in-Unread-clause-held
returns-in_err-put-in-Unread-clause-held g c = held_if g.D.Disk c.put.new.disk c.args.gate.now c.requires.held.room (λ still. (begin_failed_at g.D.Disk g.met.D.Disk.reads_image g.met.D.Disk.only_now c.args.disk.now c.put.new.disk c.args.gate.now c.in-Unread.is c.requires.held c.requires.small (c.put.ensures.images still)).held)

pub returns-in_err-put-in-Unread-clause-told : goal.returns-in_err-put-in-Unread-clause-told
returns-in_err-put-in-Unread-clause-told g c = λ still. (begin_failed_at g.D.Disk g.met.D.Disk.reads_image g.met.D.Disk.only_now c.args.disk.now c.put.new.disk c.args.gate.now c.in-Unread.is c.requires.held c.requires.small (c.put.ensures.images still)).told_is

pub returns-in_err-put-in-Unread-clause-crash : goal.returns-in_err-put-in-Unread-clause-crash
returns-in_err-put-in-Unread-clause-crash g c = λ still. (begin_failed_at g.D.Disk g.met.D.Disk.reads_image g.met.D.Disk.only_now c.args.disk.now c.put.new.disk c.args.gate.now c.in-Unread.is c.requires.held c.requires.small (c.put.ensures.images still)).endures

pub returns-in_ok-put-in-Unread-clause-held : goal.returns-in_ok-put-in-Unread-clause-held
returns-in_ok-put-in-Unread-clause-held g c = held_if g.D.Disk c.put.new.disk (Shut 8) (omega arith) (λ still. (begin_done_at g.D.Disk g.met.D.Disk.reads_image g.met.D.Disk.only_now c.args.disk.now c.put.new.disk c.args.gate.now c.in-Unread.is c.requires.held c.requires.small (c.put.ensures.images still) (c.in_ok-put-in-Unread.ensures.done still)).held)

pub returns-in_ok-put-in-Unread-clause-told : goal.returns-in_ok-put-in-Unread-clause-told
returns-in_ok-put-in-Unread-clause-told g c = λ still. (begin_done_at g.D.Disk g.met.D.Disk.reads_image g.met.D.Disk.only_now c.args.disk.now c.put.new.disk c.args.gate.now c.in-Unread.is c.requires.held c.requires.small (c.put.ensures.images still) (c.in_ok-put-in-Unread.ensures.done still)).told_is

pub returns-in_ok-put-in-Unread-clause-crash : goal.returns-in_ok-put-in-Unread-clause-crash
returns-in_ok-put-in-Unread-clause-crash g c = λ still. (begin_done_at g.D.Disk g.met.D.Disk.reads_image g.met.D.Disk.only_now c.args.disk.now c.put.new.disk c.args.gate.now c.in-Unread.is c.requires.held c.requires.small (c.put.ensures.images still) (c.in_ok-put-in-Unread.ensures.done still)).endures

pub returns-in_default-clause-held : goal.returns-in_default-clause-held
returns-in_default-clause-held g c = (begin_other g.D.Disk g.met.D.Disk.reads_image g.met.D.Disk.only_now c.args.disk.now c.args.gate.now c.requires.settled c.in_default.not-Unread c.requires.held c.requires.small).held

pub returns-in_default-clause-told : goal.returns-in_default-clause-told
returns-in_default-clause-told g c = λ still. (begin_other g.D.Disk g.met.D.Disk.reads_image g.met.D.Disk.only_now c.args.disk.now c.args.gate.now c.requires.settled c.in_default.not-Unread c.requires.held c.requires.small).told_is

pub returns-in_default-clause-crash : goal.returns-in_default-clause-crash
returns-in_default-clause-crash g c = λ still. (begin_other g.D.Disk g.met.D.Disk.reads_image g.met.D.Disk.only_now c.args.disk.now c.args.gate.now c.requires.settled c.in_default.not-Unread c.requires.held c.requires.small).endures
