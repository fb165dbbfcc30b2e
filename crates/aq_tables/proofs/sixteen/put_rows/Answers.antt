use Rattle.sqlite.specs.Held.{state}
use Rattle.aq_tables.proofs.Causes.{answer_as}
use Rattle.std.proofs.Common.{◌≡◌, List, map}
use Rattle.aq_rules.specs.Kept.Rows.{ObsRow2, OfSecondRow}
use Rattle.aq_tables.specs.Sixteen.{AreNumbered}
use Rattle.aq_tables.specs.Why.{RefusesPuts}
use Rattle.aq_tables.proofs.Prepared.{found}
use Rattle.aq_tables.proofs.sixteen.put_rows.Goals as goal

pub returns-clause-done : goal.returns-clause-done
returns-clause-done g c clean begun =
    let rows = c.take_rows.ensures.rows c.if-not-take_rows.false in
    found _ _ _ c.put_values.result (λ put. (rows.0, rows.1, put)) (c.put_values.ensures.done rows.0 rows.2 rows.3 clean begun)

pub returns-clause-why : goal.returns-clause-why
returns-clause-why g c clean begun =
    let rows = c.take_rows.ensures.rows c.if-not-take_rows.false in
    let old = state g.S.Store c.args.tx.now.conn.now in
    answer_as (RefusesPuts rows.0 old) (λ e. (found : List ObsRow2) × (c.args.rows.now ≡ map OfSecondRow found) × AreNumbered found × RefusesPuts found (state g.S.Store c.args.tx.now.conn.now) e) old (state g.S.Store c.put_values.new.tx.conn.now) c.put_values.result (λ e why. (rows.0, rows.1, rows.3, why)) (c.put_values.ensures.why rows.0 rows.2 clean begun)
