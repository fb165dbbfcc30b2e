use Rattle.sqlite.specs.Held.{state}
use Rattle.std.proofs.lemmas.Bool.{false≢true}
use Rattle.aq_rules.specs.Kept.Rows.{OfOfficeRow, OfLoadRow}
use Rattle.aq_tables.proofs.RowTurns.{put, put_second}
use Rattle.aq_tables.proofs.Refused.{put_refused, second_refused}
use Rattle.aq_tables.proofs.batch.put_row.Goals as goal

pub returns-in-Office-clause-done : goal.returns-in-Office-clause-done
returns-in-Office-clause-done g c clean begun = rw (← c.row.view_is, c.in-Office.is) (put c.args.first (OfOfficeRow c.in-Office.row) c.run.result _ _ tt (λ no. absurd (false≢true no)) (rw c.row_values.ensures at (c.run.ensures.done clean begun)))

pub returns-in-Observation-clause-done : goal.returns-in-Observation-clause-done
returns-in-Observation-clause-done g c clean begun = rw (← c.row.view_is, c.in-Observation.is) (c.put_first.ensures.done clean begun)

pub returns-in-Load-clause-done : goal.returns-in-Load-clause-done
returns-in-Load-clause-done g c clean begun = rw (← c.row.view_is, c.in-Load.is) (put c.args.first (OfLoadRow c.in-Load.row) c.run-in-Load.result _ _ tt (λ no. absurd (false≢true no)) (rw c.row_values-in-Load.ensures at (c.run-in-Load.ensures.done clean begun)))

pub returns-in-Second-clause-done : goal.returns-in-Second-clause-done
returns-in-Second-clause-done g c clean begun = rw (← c.row.view_is, c.in-Second.is) (put_second c.args.first c.in-Second.row c.put_third.result _ _ (c.put_third.ensures.done clean begun))

pub returns-in-Office-clause-why : goal.returns-in-Office-clause-why
returns-in-Office-clause-why g c clean begun = rw (← c.row.view_is, c.in-Office.is) (put_refused c.args.first (OfOfficeRow c.in-Office.row) (state g.S.Store c.args.tx.now.conn.now) (state g.S.Store c.run.new.tx.conn.now) c.run.result (rw c.row_values.ensures at (c.run.ensures.why clean begun)))

pub returns-in-Observation-clause-why : goal.returns-in-Observation-clause-why
returns-in-Observation-clause-why g c clean begun = rw (← c.row.view_is, c.in-Observation.is) (c.put_first.ensures.why clean begun)

pub returns-in-Load-clause-why : goal.returns-in-Load-clause-why
returns-in-Load-clause-why g c clean begun = rw (← c.row.view_is, c.in-Load.is) (put_refused c.args.first (OfLoadRow c.in-Load.row) (state g.S.Store c.args.tx.now.conn.now) (state g.S.Store c.run-in-Load.new.tx.conn.now) c.run-in-Load.result (rw c.row_values-in-Load.ensures at (c.run-in-Load.ensures.why clean begun)))

pub returns-in-Second-clause-why : goal.returns-in-Second-clause-why
returns-in-Second-clause-why g c clean begun = rw (← c.row.view_is, c.in-Second.is) (second_refused c.args.first c.in-Second.row (state g.S.Store c.args.tx.now.conn.now) (state g.S.Store c.put_third.new.tx.conn.now) c.put_third.result (c.put_third.ensures.why clean begun))
