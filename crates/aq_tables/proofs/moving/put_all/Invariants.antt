use Rattle.std.proofs.Common.{◌≡◌, List, ◌++◌, IsTrue}
use Rattle.std.specs.Slice.Iter.{chunks_rest}
use Rattle.sqlite.specs.State.{HasCleanDisk, KeepsCommit, Survives}
use Rattle.sqlite.specs.Held.{state}
use Rattle.aq_rules.specs.Kept.Rows.{Row}
use Rattle.aq_tables.specs.Sixteen.{MovesAll}
use Rattle.aq_tables.proofs.moving.put_all.Given as goal

abbrev pub invariant-loop-some : goal.invariant-loop-some
invariant-loop-some g l =
    let old = state g.S.Store l.fn.tx.conn.now in
    let now = state g.S.Store l.tx.conn.now in
    (goal.iterator-loop-some g).can_next l.some-iterator
    × (goal.iterator-loop-some g).is_finite l.some-iterator
    × (l.tx.conn.ghost_name ≡ l.fn.tx.conn.ghost_name)
    × Survives old now (λ _. ⊥)
    × (done : List Row) × (done ++ chunks_rest l.some-iterator ≡ l.rows)
    × (HasCleanDisk now → IsTrue old.in_transaction → MovesAll done old now × KeepsCommit old now)
