use Rattle.std.proofs.Common.{◌≡◌, take, IsTrue}
use Rattle.sqlite.specs.State.{HasCleanDisk, KeepsCommit, Survives}
use Rattle.sqlite.specs.Held.{state}
use Rattle.aq_tables.specs.Batch.{Changes}
use Rattle.aq_tables.proofs.batch.make_each.Given as goal

abbrev pub invariant-loop-place : goal.invariant-loop-place
invariant-loop-place g l =
    let old = state g.S.Store l.fn.tx.conn.now in
    let now = state g.S.Store l.tx.conn.now in
    (l.tx.conn.ghost_name ≡ l.fn.tx.conn.ghost_name) × Survives old now (λ _. ⊥) × (HasCleanDisk now → IsTrue old.in_transaction → Changes l.fn.first (take l.place l.changes) old now × KeepsCommit old now)
