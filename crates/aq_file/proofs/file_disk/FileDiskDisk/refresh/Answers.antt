use Rattle.aq_file.specs.States.{state, states}
use Rattle.aq_file.proofs.Times.{noted, ok_of}
use Rattle.aq_file.proofs.file_disk.FileDiskDisk.refresh.Goals as goal

pub returns-clause-time : goal.returns-clause-time
returns-clause-time g c =
    let ok = ok_of c.note.result c.note.ensures.ok c.if-is_err-2.ensures.value in
    noted g.F.Disk g.O.Opener.bytes (states c.args.self.now.past.items) (states c.note.new.self.past.items) (state c.args.self.now.file) (state c.refresh.new.self) (rw c.reserve.ensures.items at ok)
