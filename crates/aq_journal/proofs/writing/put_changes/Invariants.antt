use Rattle.std.proofs.Common.{◌≡◌, ◌++◌, take}
use Rattle.std.specs.List.{flat_map, AllByRecursion}
use Rattle.aq_journal.specs.JournalFormat.{change_bytes, ChangeFits}
use Rattle.aq_journal.proofs.writing.put_changes.Given as goal

abbrev pub invariant-loop-place : goal.invariant-loop-place
invariant-loop-place l = record {
  bytes : l.out.items ≡ l.fn.out.items ++ flat_map change_bytes (take l.place l.batch);
  fits : AllByRecursion ChangeFits (take l.place l.batch);
}
