use Rattle.std.proofs.Common.{IsTrue}
use Rattle.aq_file.specs.Late.{IsRead}
use Rattle.aq_file.proofs.late_file.read_piece.Given as goal

abbrev pub invariant-loop : goal.invariant-loop
invariant-loop g l = record {
  usable : IsTrue (g.F.Disk.is_usable l.file);
  read : IsRead g.F.Disk l.fn.file l.file;
}
