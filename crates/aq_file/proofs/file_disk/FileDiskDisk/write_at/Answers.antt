use Rattle.aq_file.specs.States.{state, states}
use Rattle.aq_file.proofs.Times.{noted}
use Rattle.aq_file.proofs.file_disk.FileDiskDisk.write_at.Goals as goal

pub returns-clause-time : goal.returns-clause-time
returns-clause-time g c = noted g.F.Disk g.O.Opener.bytes (states c.args.self.now.past.items) (states c.note.new.self.past.items) (state c.args.self.now.file) (state c.write.new.self) c.in_ok-note.ensures.ok
