use Rattle.std.proofs.Common.{List, Option}
use Rattle.aq_rules.specs.Kept.Rows.{Row}
use Rattle.aq_journal.specs.Keeping.{told}
use Rattle.aq_journal.proofs.Enduring.{endures_next, told_next}
use Rattle.aq_journal.proofs.journal.read_all.Goals as goal

pub returns-in_err-scanned-clause-crash : goal.returns-in_err-scanned-clause-crash
returns-in_err-scanned-clause-crash g c =
    endures_next g.D.Disk g.met.D.Disk.reads_image g.met.D.Disk.only_now c.args.disk.now c.settle.new.disk c.read_journal.new.disk c.args.gate.now c.settle.new.gate c.read_journal.new.gate (λ (rows : Option (List Row)). rows) c.settle.ensures.told c.settle.ensures.crash c.read_journal.ensures.crash

pub returns-clause-crash : goal.returns-clause-crash
returns-clause-crash g c =
    endures_next g.D.Disk g.met.D.Disk.reads_image g.met.D.Disk.only_now c.args.disk.now c.settle.new.disk c.read_journal.new.disk c.args.gate.now c.settle.new.gate c.read_journal.new.gate (λ (rows : Option (List Row)). rows) c.settle.ensures.told c.settle.ensures.crash c.read_journal.ensures.crash

pub returns-in_err-scanned-clause-told : goal.returns-in_err-scanned-clause-told
returns-in_err-scanned-clause-told g c =
    told_next g.D.Disk g.met.D.Disk.reads_image g.met.D.Disk.only_now c.args.disk.now c.settle.new.disk c.read_journal.new.disk c.args.gate.now c.settle.new.gate c.read_journal.new.gate (λ (rows : Option (List Row)). rows) (told c.settle.new.gate (g.D.Disk.seen c.settle.new.disk)) c.settle.ensures.told c.read_journal.ensures.crash c.read_journal.ensures.told

pub returns-clause-told : goal.returns-clause-told
returns-clause-told g c =
    told_next g.D.Disk g.met.D.Disk.reads_image g.met.D.Disk.only_now c.args.disk.now c.settle.new.disk c.read_journal.new.disk c.args.gate.now c.settle.new.gate c.read_journal.new.gate (λ (rows : Option (List Row)). rows) (told c.settle.new.gate (g.D.Disk.seen c.settle.new.disk)) c.settle.ensures.told c.read_journal.ensures.crash c.read_journal.ensures.told
