use Rattle.std.proofs.Common.{◌∙◌, ◌++◌, ◌∷◌, [], ap, length}
use Rattle.aq_journal.specs.Memories.{DiskState}
use Rattle.aq_journal.specs.declared.memory_disk.Call.TheVariants.{Wrote, Tore}
use Rattle.aq_journal.proofs.Images.{ok_of, time_more, time_maybe, crash_wrote, stands_wrote}
use Rattle.aq_journal.proofs.memory_disk.MemoryDiskDisk.write_at.Goals as goal

pub returns-then-is_err-clause-time : goal.returns-then-is_err-clause-time
returns-then-is_err-clause-time c =
    let counted = c.begin.ensures.state in
    time_maybe c.args.self.now c.begin.new.self c.note.new.self (Tore c.args.at (length c.args.bytes.now)) c.note.result (ap (λ (d : DiskState). d.first) counted) (ap (λ (d : DiskState). d.changes) counted) c.note.ensures.ok c.note.ensures.err

pub returns-clause-crash : goal.returns-clause-crash
returns-clause-crash c =
    let done = ok_of c.put.result c.put.ensures.ok c.if-is_err-2.ensures.value in
    crash_wrote c.args.self.now c.put.new.self c.args.at c.args.bytes.now (ap (λ (d : DiskState). d.first) done ∙ ap (λ (d : DiskState). d.first) c.begin.ensures.state)
    (ap (λ (d : DiskState). d.changes) done ∙ ap (λ (d : DiskState). d.changes ++ Wrote c.args.at c.args.bytes.now ∷ []) c.begin.ensures.state)

pub returns-clause-time : goal.returns-clause-time
returns-clause-time c =
    let done = ok_of c.put.result c.put.ensures.ok c.if-is_err-2.ensures.value in
    time_more c.args.self.now c.put.new.self (Wrote c.args.at c.args.bytes.now) (ap (λ (d : DiskState). d.first) done ∙ ap (λ (d : DiskState). d.first) c.begin.ensures.state)
    (ap (λ (d : DiskState). d.changes) done ∙ ap (λ (d : DiskState). d.changes ++ Wrote c.args.at c.args.bytes.now ∷ []) c.begin.ensures.state)

pub returns-clause-stands : goal.returns-clause-stands
returns-clause-stands c =
    let done = ok_of c.put.result c.put.ensures.ok c.if-is_err-2.ensures.value in
    stands_wrote c.args.self.now c.put.new.self c.args.at c.args.bytes.now (ap (λ (d : DiskState). d.first) done ∙ ap (λ (d : DiskState). d.first) c.begin.ensures.state)
    (ap (λ (d : DiskState). d.changes) done ∙ ap (λ (d : DiskState). d.changes ++ Wrote c.args.at c.args.bytes.now ∷ []) c.begin.ensures.state)
