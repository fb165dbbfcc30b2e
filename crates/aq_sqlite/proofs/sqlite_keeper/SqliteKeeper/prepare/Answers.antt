use Rattle.sqlite.specs.Held.{state}
use Rattle.aq_sqlite.proofs.Keeping.{on_err, on_ok, stands_made, told_made, left_made, kept_made}
use Rattle.aq_sqlite.proofs.Reasons.{reason_of}
use Rattle.aq_tables.specs.WhyMade.{RefusesFile}
use Rattle.aq_sqlite.proofs.sqlite_keeper.SqliteKeeper.prepare.Goals as goal

pub invariant_of-self : goal.invariant_of-self
invariant_of-self g c = record {
  stands = rw c.is_ok-self.ensures.value (stands_made c.prepare-made.result (state g.S.Store c.args.self.now.connection) (state g.S.Store c.prepare-made.new.conn) c.prepare-made.ensures.stand);
  alone = c.prepare-made.ensures.mode c.args.self.now.alone;
}

pub returns-clause-rows : goal.returns-clause-rows
returns-clause-rows g c = rw c.is_ok-self.ensures.value (told_made c.prepare-made.result (state g.S.Store c.args.self.now.connection) (state g.S.Store c.prepare-made.new.conn) c.prepare-made.ensures.same)

pub returns-clause-left : goal.returns-clause-left
returns-clause-left g c = left_made c.prepare-made.result (state g.S.Store c.args.self.now.connection) (state g.S.Store c.prepare-made.new.conn)
    (g.met.S.Store.settled c.prepare-made.new.conn.store) (λ h. (c.schema.ensures.live h).1) c.is_ok-self.result

pub returns-clause-office : goal.returns-clause-office
returns-clause-office g c = rw c.counted.ensures.same (on_ok _ c.prepare-made.result c.prepare-made.ensures.office)

pub returns-clause-kept : goal.returns-clause-kept
returns-clause-kept g c clean = rw c.counted.ensures.same (on_err _ c.prepare-made.result (c.prepare-made.ensures.kept clean))

pub returns-clause-called : goal.returns-clause-called
returns-clause-called g c = kept_made c.prepare-made.result (state g.S.Store c.args.self.now.connection) (state g.S.Store c.prepare-made.new.conn)
    (g.met.S.Store.settled c.prepare-made.new.conn.store) (λ h. (c.schema.ensures.live h).1) c.is_ok-self.result

pub returns-clause-why : goal.returns-clause-why
returns-clause-why g c = rw c.counted.ensures.same (reason_of (RefusesFile g.S.Store c.args.self.now.connection) (state g.S.Store c.args.self.now.connection) (state g.S.Store c.prepare-made.new.conn) c.args.self.now.alone c.prepare-made.result c.prepare-made.ensures.why)
