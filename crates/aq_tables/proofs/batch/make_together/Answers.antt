use Rattle.std.proofs.Common.{sym, subst, arith, OnOk, Ok, Err, Result}
use Rattle.sqlite.specs.State.{HasCleanDisk}
use Rattle.sqlite.specs.Held.{state}
use Rattle.aq_tables.specs.Batch.{Changes}
use Rattle.aq_tables.proofs.Making.{still_changes, together_changes}
use Rattle.std.proofs.lemmas.Result.{err_from_is_err_and}
use Rattle.aq_tables.proofs.Refused.{sixteen_refused, still_refused}
use Rattle.aq_tables.proofs.batch.make_together.Goals as goal

if_ok : {E P Q : Type 0} (r : Result (Unit {0}) E) → (P → Q) → OnOk r P → OnOk r Q
if_ok (Ok _) f h = f h
if_ok (Err e) f h = tt

pub returns-then-branch-clause-done : goal.returns-then-branch-clause-done
returns-then-branch-clause-done g c clean begun =
    let old = state g.S.Store c.args.tx.now.conn.now in
    let new = state g.S.Store c.put_sixteen.new.tx.conn.now in
    let put = rw c.if-branch.true at (c.in_ok-put_sixteen.ensures.done clean begun) in
    subst (λ l. Changes c.args.first l old new) (sym put.1) (together_changes c.args.first put.0 old new put.2)

pub returns-clause-done : goal.returns-clause-done
returns-clause-done g c clean begun =
    let old = state g.S.Store c.args.tx.now.conn.now in
    let mid = state g.S.Store c.put_sixteen.new.tx.conn.now in
    let new = state g.S.Store c.make_each.new.tx.conn.now in
    let before : HasCleanDisk mid = omega (arith, c.make_each.ensures.survives.clean) in
    let still = rw c.if-branch.false at (c.in_ok-put_sixteen.ensures.done before begun) in
    let kept = c.put_sixteen.ensures.kept before begun in
    if_ok c.make_each.result (λ h. still_changes c.args.first c.args.changes.now old mid new kept.was_open still h) (c.make_each.ensures.done clean still.mode)

pub returns-in_err-put_sixteen-clause-why : goal.returns-in_err-put_sixteen-clause-why
returns-in_err-put_sixteen-clause-why g c clean begun =
    let p = err_from_is_err_and c.from_residual.result c.from_residual.ensures.1 in
    rw (p.1, p.2) (sixteen_refused g.S.Store c.args.first c.args.changes.now c.args.tx.now.conn.now (state g.S.Store c.put_sixteen.new.tx.conn.now) c.in_err-put_sixteen.field-0.0 begun (c.in_err-put_sixteen.ensures.why clean begun))

pub returns-clause-why : goal.returns-clause-why
returns-clause-why g c clean begun =
    let mid = state g.S.Store c.put_sixteen.new.tx.conn.now in
    let before : HasCleanDisk mid = omega (arith, c.make_each.ensures.survives.clean) in
    let still = rw c.if-branch.false at (c.in_ok-put_sixteen.ensures.done before begun) in
    let kept = c.put_sixteen.ensures.kept before begun in
    still_refused g.S.Store c.args.first c.args.changes.now c.args.tx.now.conn.now c.put_sixteen.new.tx.conn.now (state g.S.Store c.make_each.new.tx.conn.now) c.make_each.result c.put_sixteen.ensures.survives before c.make_each.ensures.survives.counts kept.was_open still (c.make_each.ensures.why clean still.mode)
