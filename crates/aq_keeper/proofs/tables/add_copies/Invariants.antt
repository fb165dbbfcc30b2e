use Rattle.std.proofs.Common.{◌≡◌, ◌++◌, take}
use Rattle.aq_keeper.proofs.tables.add_copies.Given as goal

abbrev pub invariant-loop-place : goal.invariant-loop-place
invariant-loop-place l = l.copies.items ≡ l.fn.copies.items ++ take l.place l.rows
