use Rattle.std.proofs.Common.{◌≡◌, ◌≤◌, length}
use Rattle.std.specs.Prelude.{IfSome}
use Rattle.aq_journal.specs.Disks.{IfTells}
use Rattle.aq_journal.specs.Calls.{IsQuiet}
use Rattle.aq_journal.proofs.Opens.{IsFilled}
use Rattle.aq_journal.proofs.calls.fill.Given as goal

abbrev pub invariant-loop : goal.invariant-loop
invariant-loop g l = record {
  as_long : length l.bytes ≡ length l.fn.bytes;
  within : l.at ≤ length l.bytes;
  count : l.counter ≤ l.at;
  quiet : IfTells (g.D.Disk.seen l.disk) (IsQuiet g.D.Disk l.fn.disk l.disk);
  faults : g.D.Disk.faults l.disk ≡ g.D.Disk.faults l.fn.disk;
  read : IfSome (g.D.Disk.seen l.disk) (IsFilled l.at l.bytes);
}
