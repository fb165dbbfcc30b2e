use Rattle.std.proofs.Common.{IsTrue, length}
use Rattle.sqlite_disk.specs.Disk.{Torn}
use Rattle.aq_journal.specs.Disks.{Follows}
use Rattle.aq_file.proofs.late_file.write_piece.Given as goal

abbrev pub invariant-loop : goal.invariant-loop
invariant-loop g l = record {
  usable : IsTrue (g.F.Disk.is_usable l.file);
  clean : IsTrue (g.F.Disk.is_clean l.file) → IsTrue (g.F.Disk.is_clean l.fn.file);
  torn : Torn l.at (length l.piece) (g.F.Disk.seen l.fn.file) (g.F.Disk.seen l.file);
  crash : Follows (Torn l.at (length l.piece)) (g.F.Disk.may_leave l.fn.file) (g.F.Disk.may_leave l.file);
}
