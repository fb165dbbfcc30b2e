use Rattle.std.proofs.Common.{◌∙◌, ◌++◌, ◌∷◌, [], ap}
use Rattle.aq_journal.specs.Memories.{DiskState}
use Rattle.aq_journal.specs.declared.memory_disk.Call.TheVariants.{Synced}
use Rattle.aq_journal.proofs.Images.{ok_of, time_more, crash_synced}
use Rattle.aq_journal.proofs.memory_disk.MemoryDiskDisk.refresh.Goals as goal

pub returns-clause-crash : goal.returns-clause-crash
returns-clause-crash c =
    let noted = ok_of c.note.result c.note.ensures.ok c.if-is_err-2.ensures.value in
    crash_synced c.args.self.now c.note.new.self (ap (λ (d : DiskState). d.first) noted ∙ ap (λ (d : DiskState). d.first) c.begin.ensures.state)
    (ap (λ (d : DiskState). d.changes) noted ∙ ap (λ (d : DiskState). d.changes ++ Synced ∷ []) c.begin.ensures.state)

pub returns-clause-time : goal.returns-clause-time
returns-clause-time c =
    let noted = ok_of c.note.result c.note.ensures.ok c.if-is_err-2.ensures.value in
    time_more c.args.self.now c.note.new.self Synced (ap (λ (d : DiskState). d.first) noted ∙ ap (λ (d : DiskState). d.first) c.begin.ensures.state)
    (ap (λ (d : DiskState). d.changes) noted ∙ ap (λ (d : DiskState). d.changes ++ Synced ∷ []) c.begin.ensures.state)
