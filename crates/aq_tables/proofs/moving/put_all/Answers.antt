use Rattle.std.proofs.Common.{ℕ, ◌<◌, ◌++◌, [], refl, sym, ap, subst, ◌∙◌, arith, rules, append_assoc, append-nil}
use Rattle.std.proofs.lemmas.List.{nil_from_length}
use Rattle.sqlite.specs.State.{HasCleanDisk}
use Rattle.sqlite.specs.Held.{state}
use Rattle.aq_tables.specs.Sixteen.{MovesAll}
use Rattle.aq_tables.proofs.RowsMoved.{moves_none, moves_then}
use Rattle.aq_tables.proofs.Steps.{survives_here, survives_both, kept_here, kept_both}
use Rattle.std.proofs.lemmas.Result.{err_from_is_err_and}
use Rattle.aq_tables.proofs.MakingRefused.{moves_within_refused}
use Rattle.aq_tables.proofs.moving.put_all.Goals as goal

pub loop-some-init : goal.loop-some-init
loop-some-init g c = (search rules, tt, refl, survives_here _ _, [], search rules, λ clean begun. (moves_none _ begun, kept_here _))

pub loop-some-preserved : goal.loop-some-preserved
loop-some-preserved g c =
    let old = state g.S.Store c.args.tx.now.conn.now in
    let mid = state g.S.Store c.loop-some.tx.conn.now in
    let new = state g.S.Store c.put_together.new.tx.conn.now in
    let was = c.loop-some.invariant in (
      subst (λ (n : ℕ). 0 < n) (sym c.in-Some.ensures.steps.0) was.0,
      tt,
      c.put_together.ensures.same_reference ∙ was.2,
      survives_both old mid new was.3 c.put_together.ensures.survives,
      was.4 ++ c.in-Some.some.now,
      append_assoc was.4 _ _ ∙ ap (λ l. was.4 ++ l) (sym c.in-Some.ensures.steps.1.0) ∙ was.5,
      λ clean begun.
          let before : HasCleanDisk mid = omega (arith, c.put_together.ensures.survives.clean) in
          let done = was.6 before begun in
          (moves_then _ _ old mid new done.0 (c.in_ok-put_together.ensures.done clean done.0.mode), kept_both old mid new done.1 (c.put_together.ensures.kept clean done.0.mode)),
    )

pub returns-in_err-put_together-clause-survives : goal.returns-in_err-put_together-clause-survives
returns-in_err-put_together-clause-survives g c =
    survives_both (state g.S.Store c.args.tx.now.conn.now) (state g.S.Store c.loop-some.tx.conn.now) (state g.S.Store c.put_together.new.tx.conn.now) c.loop-some.invariant.3 c.put_together.ensures.survives

pub returns-in_err-put_together-clause-kept : goal.returns-in_err-put_together-clause-kept
returns-in_err-put_together-clause-kept g c clean begun =
    let mid = state g.S.Store c.loop-some.tx.conn.now in
    let before : HasCleanDisk mid = omega (arith, c.put_together.ensures.survives.clean) in
    let done = c.loop-some.invariant.6 before begun in
    kept_both (state g.S.Store c.args.tx.now.conn.now) mid (state g.S.Store c.put_together.new.tx.conn.now) done.1 (c.put_together.ensures.kept clean done.0.mode)

pub returns-clause-done : goal.returns-clause-done
returns-clause-done g c clean begun =
    let was = c.loop-some.invariant in
    let none = nil_from_length _ c.in-None.ensures.steps.1.0 in
    let all = rw (none, append-nil) at was.5 in
    subst (λ l. MovesAll l (state g.S.Store c.args.tx.now.conn.now) (state g.S.Store c.loop-some.tx.conn.now)) all (was.6 clean begun).0

pub returns-in_err-put_together-clause-why : goal.returns-in_err-put_together-clause-why
returns-in_err-put_together-clause-why g c clean begun =
    let p = err_from_is_err_and c.from_residual.result c.from_residual.ensures.1 in
    let was = c.loop-some.invariant in
    let mid = state g.S.Store c.loop-some.tx.conn.now in
    let before : HasCleanDisk mid = omega (arith, c.put_together.ensures.survives.clean) in
    let done = was.6 before begun in
    rw (p.1, p.2) (moves_within_refused g.S.Store c.args.rows.now was.4 c.in-Some.some.now _ c.args.tx.now.conn.now c.loop-some.tx.conn.now (state g.S.Store c.put_together.new.tx.conn.now) c.in_err-put_together.field-0.0 (ap (λ l. was.4 ++ l) (sym c.in-Some.ensures.steps.1.0) ∙ was.5) was.3 before c.put_together.ensures.survives.counts done.0 (c.in_err-put_together.ensures.why clean done.0.mode))
