use Rattle.sqlite.specs.Held.{state}
use Rattle.aq_sqlite.proofs.Keeping.{stands_read, told_read, rows_read}
use Rattle.aq_sqlite.proofs.Reasons.{or_reason, reason_of}
use Rattle.std.proofs.Common.{◌≡◌, false, inl, rules}
use Rattle.aq_sqlite.specs.Faults.{HasReason, answered}
use Rattle.aq_tables.specs.Why.{RefusesRows}
use Rattle.aq_sqlite.proofs.sqlite_keeper.SqliteKeeperKeeper.read_all.Goals as goal

pub invariant_of-self-2 : goal.invariant_of-self-2
invariant_of-self-2 g c = record {
  stands = stands_read c.args.self.now.prepared (state g.S.Store c.args.self.now.connection) (state g.S.Store c.read_all-rows.new.conn) c.args.self.now.stands
      (g.met.S.Store.shut_if_dirty c.read_all-rows.new.conn.store) c.read_all-rows.ensures.kept;
  alone = c.read_all-rows.ensures.mode c.args.self.now.alone;
}

pub returns-clause-rows : goal.returns-clause-rows
returns-clause-rows g c = rw c.counted.ensures.same (rows_read c.args.self.now.prepared (state g.S.Store c.args.self.now.connection) (state g.S.Store c.read_all-rows.new.conn) c.args.self.now.stands
    (g.met.S.Store.shut_if_dirty c.read_all-rows.new.conn.store) c.read_all-rows.ensures.kept c.read_all-rows.result c.read_all-rows.ensures.rows)

pub returns-clause-kept : goal.returns-clause-kept
returns-clause-kept g c = told_read c.args.self.now.prepared (state g.S.Store c.args.self.now.connection) (state g.S.Store c.read_all-rows.new.conn) c.args.self.now.stands
    (g.met.S.Store.shut_if_dirty c.read_all-rows.new.conn.store) c.read_all-rows.ensures.kept

pub returns-clause-why : goal.returns-clause-why
returns-clause-why g c =
    let old = state g.S.Store c.args.self.now.connection in
    let new = state g.S.Store c.read_all-rows.new.conn in
    rw c.counted.ensures.same (or_reason (c.args.self.now.is_held ≡ false) (HasReason (RefusesRows (state g.S.Store c.args.self.now.connection)) old new) (answered c.read_all-rows.result) (reason_of (RefusesRows (state g.S.Store c.args.self.now.connection)) old new c.args.self.now.alone c.read_all-rows.result c.read_all-rows.ensures.why))

pub returns-then-not-self-clause-why : goal.returns-then-not-self-clause-why
returns-then-not-self-clause-why g c =
    let gone : c.args.self.now.is_held ≡ false = search rules in
    rw c.gone.ensures.failed (inl gone)
