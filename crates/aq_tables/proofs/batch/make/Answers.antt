use Rattle.std.proofs.Common.{arith, OnOk, Ok, Err, Result}
use Rattle.sqlite.specs.State.{HasCleanDisk}
use Rattle.sqlite.specs.Held.{state}
use Rattle.aq_tables.proofs.Making.{put_changes, drop_changes}
use Rattle.std.proofs.lemmas.Result.{err_from_is_err_and}
use Rattle.aq_tables.proofs.Refused.{drop_refused, row_refused}
use Rattle.aq_tables.proofs.batch.make.Goals as goal

if_ok : {E P Q : Type 0} (r : Result (Unit {0}) E) → (P → Q) → OnOk r P → OnOk r Q
if_ok (Ok _) f h = f h
if_ok (Err e) f h = tt

pub returns-in_ok-drop_same-in-Put-clause-done : goal.returns-in_ok-drop_same-in-Put-clause-done
returns-in_ok-drop_same-in-Put-clause-done g c clean begun =
    let old = state g.S.Store c.args.tx.now.conn.now in
    let mid = state g.S.Store c.drop_same.new.tx.conn.now in
    let new = state g.S.Store c.put_row.new.tx.conn.now in
    let before : HasCleanDisk mid = omega (arith, c.put_row.ensures.survives.clean) in
    let dropped = c.in_ok-drop_same-in-Put.ensures.done before begun in
    rw (← c.change.view_is, c.in-Put.is) (if_ok c.put_row.result (λ h. put_changes c.args.first c.in-Put.row old mid new dropped h) (c.put_row.ensures.done clean dropped.mode))

pub returns-in-Drop-clause-done : goal.returns-in-Drop-clause-done
returns-in-Drop-clause-done g c clean begun =
    rw (← c.change.view_is, c.in-Drop.is) (if_ok c.drop_key.result (λ h. drop_changes c.args.first c.in-Drop.key (state g.S.Store c.args.tx.now.conn.now) (state g.S.Store c.drop_key.new.tx.conn.now) h) (c.drop_key.ensures.done clean begun))

pub returns-in_err-drop_same-in-Put-clause-why : goal.returns-in_err-drop_same-in-Put-clause-why
returns-in_err-drop_same-in-Put-clause-why g c clean begun =
    let p = err_from_is_err_and c.from_residual.result c.from_residual.ensures.1 in
    rw (← c.change.view_is, c.in-Put.is, p.1, p.2) (drop_refused g.S.Store c.args.first c.in-Put.row c.args.tx.now.conn.now (state g.S.Store c.drop_same.new.tx.conn.now) c.in_err-drop_same-in-Put.field-0.0 (c.in_err-drop_same-in-Put.ensures.why clean begun))

pub returns-in_ok-drop_same-in-Put-clause-why : goal.returns-in_ok-drop_same-in-Put-clause-why
returns-in_ok-drop_same-in-Put-clause-why g c clean begun =
    let mid = state g.S.Store c.drop_same.new.tx.conn.now in
    let before : HasCleanDisk mid = omega (arith, c.put_row.ensures.survives.clean) in
    let dropped = c.in_ok-drop_same-in-Put.ensures.done before begun in
    rw (← c.change.view_is, c.in-Put.is) (row_refused g.S.Store c.args.first c.in-Put.row c.args.tx.now.conn.now c.drop_same.new.tx.conn.now (state g.S.Store c.put_row.new.tx.conn.now) c.put_row.result c.drop_same.ensures.survives before c.put_row.ensures.survives.counts dropped (c.put_row.ensures.why clean dropped.mode))

pub returns-in-Drop-clause-why : goal.returns-in-Drop-clause-why
returns-in-Drop-clause-why g c clean begun = rw (← c.change.view_is, c.in-Drop.is) (c.drop_key.ensures.why clean begun)
