use Rattle.sqlite.specs.Held.{state}
use Rattle.aq_sqlite.proofs.Keeping.{on_ok, on_err, stands_then, done_told, kept_told, left_rows, crash_rows}
use Rattle.aq_sqlite.proofs.Reasons.{or_reason, reason_of}
use Rattle.std.proofs.Common.{◌≡◌, false, inl, rules}
use Rattle.aq_sqlite.specs.Faults.{HasReason, answered}
use Rattle.aq_tables.specs.Why.{RefusesCommit}
use Rattle.aq_sqlite.proofs.sqlite_keeper.SqliteKeeperKeeper.commit.Goals as goal

pub invariant_of-self-2 : goal.invariant_of-self-2
invariant_of-self-2 g c = let e = c.commit_alone-made.ensures in record {
  stands = stands_then c.args.self.now.prepared (state g.S.Store c.args.self.now.connection) (state g.S.Store c.commit_alone-made.new.connection) c.args.self.now.stands (g.met.S.Store.shut_if_dirty c.commit_alone-made.new.connection.store)
      c.args.batch.now c.commit_alone-made.result (record { settled = e.settled; sound = e.sound; done = e.done; opened = e.opened; left = e.left; kept = e.kept; was_open = e.was_open; crash = e.crash });
  alone = e.mode c.args.self.now.alone;
}

pub returns-clause-done : goal.returns-clause-done
returns-clause-done g c = let e = c.commit_alone-made.ensures in rw c.counted.ensures.same (on_ok _ c.commit_alone-made.result (done_told c.args.self.now.prepared (state g.S.Store c.args.self.now.connection) (state g.S.Store c.commit_alone-made.new.connection) c.args.self.now.stands (g.met.S.Store.shut_if_dirty c.commit_alone-made.new.connection.store)
    c.args.batch.now c.commit_alone-made.result (record { settled = e.settled; sound = e.sound; done = e.done; opened = e.opened; left = e.left; kept = e.kept; was_open = e.was_open; crash = e.crash })))

pub returns-clause-kept : goal.returns-clause-kept
returns-clause-kept g c = let e = c.commit_alone-made.ensures in rw c.counted.ensures.same (on_err _ c.commit_alone-made.result (kept_told c.args.self.now.prepared (state g.S.Store c.args.self.now.connection) (state g.S.Store c.commit_alone-made.new.connection) c.args.self.now.stands (g.met.S.Store.shut_if_dirty c.commit_alone-made.new.connection.store)
    c.args.batch.now c.commit_alone-made.result (record { settled = e.settled; sound = e.sound; done = e.done; opened = e.opened; left = e.left; kept = e.kept; was_open = e.was_open; crash = e.crash })))

pub returns-clause-left : goal.returns-clause-left
returns-clause-left g c p = let e = c.commit_alone-made.ensures in rw c.counted.ensures.same (on_ok _ c.commit_alone-made.result (left_rows c.args.self.now.prepared (state g.S.Store c.args.self.now.connection) (state g.S.Store c.commit_alone-made.new.connection) c.args.self.now.stands (g.met.S.Store.shut_if_dirty c.commit_alone-made.new.connection.store)
    c.args.batch.now c.commit_alone-made.result (record { settled = e.settled; sound = e.sound; done = e.done; opened = e.opened; left = e.left; kept = e.kept; was_open = e.was_open; crash = e.crash }) p))

pub returns-clause-crash : goal.returns-clause-crash
returns-clause-crash g c = let e = c.commit_alone-made.ensures in crash_rows c.args.self.now.prepared (state g.S.Store c.args.self.now.connection) (state g.S.Store c.commit_alone-made.new.connection) c.args.self.now.stands (g.met.S.Store.shut_if_dirty c.commit_alone-made.new.connection.store)
    c.args.batch.now c.commit_alone-made.result (record { settled = e.settled; sound = e.sound; done = e.done; opened = e.opened; left = e.left; kept = e.kept; was_open = e.was_open; crash = e.crash })

pub returns-clause-why : goal.returns-clause-why
returns-clause-why g c =
    let old = state g.S.Store c.args.self.now.connection in
    let new = state g.S.Store c.commit_alone-made.new.connection in
    rw c.counted.ensures.same (or_reason (c.args.self.now.is_held ≡ false) (HasReason (RefusesCommit g.S.Store c.args.batch.now c.args.self.now.connection) old new) (answered c.commit_alone-made.result) (reason_of (RefusesCommit g.S.Store c.args.batch.now c.args.self.now.connection) old new c.args.self.now.alone c.commit_alone-made.result c.commit_alone-made.ensures.why))

pub returns-then-not-self-clause-why : goal.returns-then-not-self-clause-why
returns-then-not-self-clause-why g c =
    let gone : c.args.self.now.is_held ≡ false = search rules in
    rw c.gone.ensures.failed (inl gone)
