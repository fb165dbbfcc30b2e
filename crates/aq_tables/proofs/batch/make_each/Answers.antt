use Rattle.std.proofs.Common.{◌≡◌, ◌∷◌, ◌++◌, ◌+◌, [], take, refl, ◌∙◌, arith}
use Rattle.std.proofs.lemmas.Grind.{common_steps}
use Rattle.sqlite.specs.State.{HasCleanDisk}
use Rattle.sqlite.specs.Held.{state}
use Rattle.aq_tables.proofs.Making.{changes_nothing, changes_then}
use Rattle.aq_tables.proofs.Steps.{survives_here, survives_both, kept_here, kept_both}
use Rattle.std.proofs.lemmas.Result.{err_from_is_err_and}
use Rattle.aq_tables.proofs.Refused.{change_refused}
use Rattle.aq_tables.proofs.batch.make_each.Goals as goal

pub loop-place-init : goal.loop-place-init
loop-place-init g c = (refl, survives_here _ _, λ clean begun. (changes_nothing c.args.first _ begun, kept_here _))

pub loop-place-preserved : goal.loop-place-preserved
loop-place-preserved g c =
    let old = state g.S.Store c.args.tx.now.conn.now in
    let mid = state g.S.Store c.loop-place.tx.conn.now in
    let new = state g.S.Store c.make.new.tx.conn.now in (
      c.make.ensures.same_reference ∙ c.loop-place.invariant.0,
      survives_both old mid new c.loop-place.invariant.1 c.make.ensures.survives,
      λ clean begun.
          let before : HasCleanDisk mid = omega (arith, c.make.ensures.survives.clean) in
          let done = c.loop-place.invariant.2 before begun in
          let one = c.in_ok-make.ensures.done clean done.0.mode in
          let all : take (c.loop-place.place + 1) c.args.changes.now ≡ take c.loop-place.place c.args.changes.now ++ (c.index-changes-place.result ∷ []) = grind (arith, common_steps) in
          (rw all (changes_then c.args.first _ _ old mid new done.1.was_open done.0 one), kept_both old mid new done.1 (c.make.ensures.kept clean done.0.mode)),
    )

pub returns-in_err-make-clause-survives : goal.returns-in_err-make-clause-survives
returns-in_err-make-clause-survives g c =
    survives_both (state g.S.Store c.args.tx.now.conn.now) (state g.S.Store c.loop-place.tx.conn.now) (state g.S.Store c.make.new.tx.conn.now) c.loop-place.invariant.1 c.make.ensures.survives

pub returns-in_err-make-clause-kept : goal.returns-in_err-make-clause-kept
returns-in_err-make-clause-kept g c clean begun =
    let mid = state g.S.Store c.loop-place.tx.conn.now in
    let before : HasCleanDisk mid = omega (arith, c.make.ensures.survives.clean) in
    let done = c.loop-place.invariant.2 before begun in
    kept_both (state g.S.Store c.args.tx.now.conn.now) mid (state g.S.Store c.make.new.tx.conn.now) done.1 (c.make.ensures.kept clean done.0.mode)

pub returns-clause-done : goal.returns-clause-done
returns-clause-done g c clean begun =
    let all : take c.loop-place.place c.args.changes.now ≡ c.args.changes.now = grind (arith, common_steps) in
    rw all at (c.loop-place.invariant.2 clean begun).0

pub returns-in_err-make-clause-why : goal.returns-in_err-make-clause-why
returns-in_err-make-clause-why g c clean begun =
    let p = err_from_is_err_and c.from_residual.result c.from_residual.ensures.1 in
    let mid = state g.S.Store c.loop-place.tx.conn.now in
    let before : HasCleanDisk mid = omega (arith, c.make.ensures.survives.clean) in
    let done = c.loop-place.invariant.2 before begun in
    let all : take (c.loop-place.place + 1) c.args.changes.now ≡ take c.loop-place.place c.args.changes.now ++ (c.index-changes-place.result ∷ []) = grind (arith, common_steps) in
    rw (p.1, p.2) (change_refused g.S.Store c.args.first c.args.changes.now c.loop-place.place c.index-changes-place.result c.args.tx.now.conn.now c.loop-place.tx.conn.now (state g.S.Store c.make.new.tx.conn.now) c.in_err-make.field-0.0 all c.loop-place.invariant.1 before c.make.ensures.survives.counts done.0 (c.in_err-make.ensures.why clean done.0.mode))
