use Rattle.std.proofs.Common.{arith}
use Rattle.sqlite.specs.State.{HasCleanDisk}
use Rattle.sqlite.specs.Held.{state}
use Rattle.aq_tables.proofs.Prepared.{if_ok}
use Rattle.aq_tables.proofs.RowsMoved.{moves_put, moves_still}
use Rattle.std.proofs.lemmas.Result.{err_from_is_err_and}
use Rattle.aq_tables.proofs.MakingRefused.{rows_refused, moves_still_refused}
use Rattle.aq_tables.proofs.moving.put_together.Goals as goal

pub returns-then-branch-clause-done : goal.returns-then-branch-clause-done
returns-then-branch-clause-done g c clean begun =
    let put = rw c.if-branch.true at (c.in_ok-put_rows.ensures.done clean begun) in
    moves_put c.args.rows.now put.0 (state g.S.Store c.args.tx.now.conn.now) (state g.S.Store c.put_rows.new.tx.conn.now) put.1 put.2

pub returns-clause-done : goal.returns-clause-done
returns-clause-done g c clean begun =
    let old = state g.S.Store c.args.tx.now.conn.now in
    let mid = state g.S.Store c.put_rows.new.tx.conn.now in
    let new = state g.S.Store c.put_each.new.tx.conn.now in
    let before : HasCleanDisk mid = omega (arith, c.put_each.ensures.survives.clean) in
    let still = rw c.if-branch.false at (c.in_ok-put_rows.ensures.done before begun) in
    let kept = c.put_rows.ensures.kept before begun in
    if_ok c.put_each.result (λ h. moves_still c.args.rows.now old mid new kept.was_open still h) (c.put_each.ensures.done clean still.mode)

pub returns-in_err-put_rows-clause-why : goal.returns-in_err-put_rows-clause-why
returns-in_err-put_rows-clause-why g c clean begun =
    let p = err_from_is_err_and c.from_residual.result c.from_residual.ensures.1 in
    rw (p.1, p.2) (rows_refused g.S.Store c.args.rows.now c.args.tx.now.conn.now (state g.S.Store c.put_rows.new.tx.conn.now) c.in_err-put_rows.field-0.0 begun (c.in_err-put_rows.ensures.why clean begun))

pub returns-clause-why : goal.returns-clause-why
returns-clause-why g c clean begun =
    let mid = state g.S.Store c.put_rows.new.tx.conn.now in
    let before : HasCleanDisk mid = omega (arith, c.put_each.ensures.survives.clean) in
    let still = rw c.if-branch.false at (c.in_ok-put_rows.ensures.done before begun) in
    let kept = c.put_rows.ensures.kept before begun in
    moves_still_refused g.S.Store c.args.rows.now c.args.tx.now.conn.now c.put_rows.new.tx.conn.now (state g.S.Store c.put_each.new.tx.conn.now) c.put_each.result c.put_rows.ensures.survives before c.put_each.ensures.survives.counts kept.was_open still (c.put_each.ensures.why clean still.mode)
