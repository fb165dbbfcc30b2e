use Rattle.std.proofs.Common.{◌≡◌, List, ◌++◌, IsTrue}
use Rattle.std.specs.Slice.Iter.{chunks_rest}
use Rattle.sqlite.specs.State.{HasCleanDisk, KeepsCommit, Survives}
use Rattle.sqlite.specs.Held.{state}
use Rattle.aq_rules.specs.Kept.RowChanges.{RowChange}
use Rattle.aq_tables.specs.Batch.{Changes}
use Rattle.aq_tables.proofs.batch.make_all.Given as goal

abbrev pub invariant-loop-changes : goal.invariant-loop-changes
invariant-loop-changes g l =
    let old = state g.S.Store l.fn.tx.conn.now in
    let now = state g.S.Store l.tx.conn.now in
    (goal.iterator-loop-changes g).can_next l.changes-iterator
    × (goal.iterator-loop-changes g).is_finite l.changes-iterator
    × (l.tx.conn.ghost_name ≡ l.fn.tx.conn.ghost_name)
    × Survives old now (λ _. ⊥)
    × (done : List RowChange) × (done ++ chunks_rest l.changes-iterator ≡ l.batch)
    × (HasCleanDisk now → IsTrue old.in_transaction → Changes l.fn.first done old now × KeepsCommit old now)
