use Rattle.std.proofs.Common.{inl, inr, refl}
use Rattle.aq_tables.proofs.Prepared.{if_ok}
use Rattle.sqlite.specs.Held.{state}
use Rattle.aq_tables.proofs.MakingRefused.{move_refused}
use Rattle.aq_tables.proofs.moving.put_one.Goals as goal

pub returns-clause-done : goal.returns-clause-done
returns-clause-done g c clean begun = if_ok c.put_third.result (λ put. (c.in-Some.it.now, c.in-Some.ensures.some, put)) (c.put_third.ensures.done clean begun)

pub returns-clause-why : goal.returns-clause-why
returns-clause-why g c clean begun = move_refused c.args.row.now c.in-Some.it.now (state g.S.Store c.args.tx.now.conn.now) (state g.S.Store c.put_third.new.tx.conn.now) c.put_third.result c.in-Some.ensures.some (c.put_third.ensures.why clean begun)

pub returns-in_default-clause-why : goal.returns-in_default-clause-why
returns-in_default-clause-why g c clean begun = let none = rw c.in_default.is at c.observation_in.ensures.none in inr (inr (inr (inl (none refl))))
