use Rattle.std.proofs.Common.{◌≡◌, take, IsTrue}
use Rattle.sqlite.specs.State.{HasCleanDisk, KeepsCommit, Survives}
use Rattle.sqlite.specs.Held.{state}
use Rattle.aq_tables.specs.Sixteen.{MovesAll}
use Rattle.aq_tables.proofs.moving.put_each.Given as goal

abbrev pub invariant-loop-place : goal.invariant-loop-place
invariant-loop-place g l =
    let old = state g.S.Store l.fn.tx.conn.now in
    let now = state g.S.Store l.tx.conn.now in
    (l.tx.conn.ghost_name ≡ l.fn.tx.conn.ghost_name) × Survives old now (λ _. ⊥) × (HasCleanDisk now → IsTrue old.in_transaction → MovesAll (take l.place l.rows) old now × KeepsCommit old now)
