use Rattle.std.proofs.Common.{◌≡◌, take}
use Rattle.aq_keeper.specs.Rising.{changes_in}
use Rattle.aq_keeper.proofs.tables.changes_in.Given as goal

abbrev pub invariant-loop-place : goal.invariant-loop-place
invariant-loop-place l = l.changes.items ≡ changes_in l.table (take l.place l.batch)
