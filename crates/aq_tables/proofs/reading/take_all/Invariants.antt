use Rattle.std.proofs.Common.{◌≡◌, false, [], ◌++◌, List, map, length}
use Rattle.sqlite.specs.Order.{Row}
use Rattle.sqlite.specs.State.{HasCleanDisk, IsUnchanged, Survives}
use Rattle.sqlite.specs.Held.{state}
use Rattle.sqlite.specs.Given.{HasGiven}
use Rattle.aq_tables.specs.Queries.{shown_by}
use Rattle.aq_tables.proofs.reading.take_all.Given as goal

abbrev pub invariant-rows : goal.invariant-rows
invariant-rows g l =
    let old = state g.S.Store l.fn.conn in
    let now = state g.S.Store l.rows.conn.now in
    (l.rows.conn.ghost_name ≡ l.initial.rows.conn.ghost_name) × Survives old now (λ _. ⊥)
    × (old.in_transaction ≡ false → now.in_transaction ≡ false)
    × (HasCleanDisk now → (given : List Row) × HasGiven g.S.Store l.fn.text [] l.rows.conn.now given × IsUnchanged old now × (l.found.items ≡ l.fn.found.items ++ map (shown_by l.fn.table) given) × (length given ≡ l._taken))
