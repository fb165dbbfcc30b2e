use Rattle.sqlite.specs.Held.{state}
use Rattle.aq_tables.proofs.Causes.{answer_as}
use Rattle.aq_tables.specs.Why.{RefusesPuts, RefusesSixteen}
use Rattle.aq_tables.proofs.Prepared.{found}
use Rattle.aq_tables.proofs.sixteen.put_sixteen.Goals as goal

pub returns-clause-done : goal.returns-clause-done
returns-clause-done g c clean begun =
    let rows = c.take_changes.ensures.rows c.if-not-take_changes.false in
    found _ _ _ c.put_values.result (λ put. (rows.0, rows.1, put)) (c.put_values.ensures.done rows.0 rows.2 rows.3 clean begun)

pub returns-clause-why : goal.returns-clause-why
returns-clause-why g c clean begun =
    let rows = c.take_changes.ensures.rows c.if-not-take_changes.false in
    let old = state g.S.Store c.args.tx.now.conn.now in
    answer_as (RefusesPuts rows.0 old) (RefusesSixteen c.args.changes.now (state g.S.Store c.args.tx.now.conn.now)) old (state g.S.Store c.put_values.new.tx.conn.now) c.put_values.result (λ e why. (rows.0, rows.1, rows.3, why)) (c.put_values.ensures.why rows.0 rows.2 clean begun)
