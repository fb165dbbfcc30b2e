use Rattle.std.proofs.Common.{◌≡◌, ◌==◌, true, List, length, ℕ, ◌<◌, ◌++◌, [], refl, sym, ap, subst, ◌∙◌, arith, rules, append_assoc, append-nil}
use Rattle.std.proofs.lemmas.Bool.{eqb-true, false≢true}
use Rattle.std.proofs.lemmas.List.{nil_from_length}
use Rattle.aq_rules.specs.Kept.RowChanges.{RowChange}
use Rattle.aq_tables.proofs.Prepared.{if_ok}
use Rattle.sqlite.specs.State.{HasCleanDisk}
use Rattle.sqlite.specs.Held.{state}
use Rattle.aq_tables.specs.Batch.{Changes}
use Rattle.aq_tables.proofs.Making.{changes_nothing, changes_then, nothing_made}
use Rattle.aq_tables.proofs.Steps.{survives_here, survives_both, kept_here, kept_both}
use Rattle.std.proofs.lemmas.Result.{err_from_is_err_and}
use Rattle.aq_tables.proofs.Refused.{nothing_refused, within_refused}
use Rattle.aq_tables.proofs.batch.make_all.Goals as goal

pub returns-then-is_empty-clause-done : goal.returns-then-is_empty-clause-done
returns-then-is_empty-clause-done g c clean begun =
    let none = nil_from_length _ (eqb-true (length c.args.batch.now) 0 (sym c.is_empty.ensures ∙ c.if-is_empty.true)) in
    rw none (if_ok c.run.result (λ h. h.0) (nothing_made c.args.first c.run.result _ _ (c.run.ensures.done clean begun)))

pub returns-then-is_empty-clause-opened : goal.returns-then-is_empty-clause-opened
returns-then-is_empty-clause-opened g c clean begun = if_ok c.run.result (λ h. h.1) (nothing_made c.args.first c.run.result _ _ (c.run.ensures.done clean begun))

pub loop-changes-init : goal.loop-changes-init
loop-changes-init g c = (search rules, tt, refl, survives_here _ _, [], search rules, λ clean begun. (changes_nothing c.args.first _ begun, kept_here _))

pub loop-changes-preserved : goal.loop-changes-preserved
loop-changes-preserved g c =
    let old = state g.S.Store c.args.tx.now.conn.now in
    let mid = state g.S.Store c.loop-changes.tx.conn.now in
    let new = state g.S.Store c.make_together.new.tx.conn.now in
    let was = c.loop-changes.invariant in (
      subst (λ (n : ℕ). 0 < n) (sym c.in-Some.ensures.steps.0) was.0,
      tt,
      c.make_together.ensures.same_reference ∙ was.2,
      survives_both old mid new was.3 c.make_together.ensures.survives,
      was.4 ++ c.in-Some.changes.now,
      append_assoc was.4 _ _ ∙ ap (λ l. was.4 ++ l) (sym c.in-Some.ensures.steps.1.0) ∙ was.5,
      λ clean begun.
          let before : HasCleanDisk mid = omega (arith, c.make_together.ensures.survives.clean) in
          let done = was.6 before begun in
          let more = c.in_ok-make_together.ensures.done clean done.0.mode in
          (changes_then c.args.first _ _ old mid new done.1.was_open done.0 more, kept_both old mid new done.1 (c.make_together.ensures.kept clean done.0.mode)),
    )

pub returns-in_err-make_together-clause-survives : goal.returns-in_err-make_together-clause-survives
returns-in_err-make_together-clause-survives g c =
    survives_both (state g.S.Store c.args.tx.now.conn.now) (state g.S.Store c.loop-changes.tx.conn.now) (state g.S.Store c.make_together.new.tx.conn.now) c.loop-changes.invariant.3 c.make_together.ensures.survives

pub returns-in_err-make_together-clause-kept : goal.returns-in_err-make_together-clause-kept
returns-in_err-make_together-clause-kept g c clean begun =
    let mid = state g.S.Store c.loop-changes.tx.conn.now in
    let before : HasCleanDisk mid = omega (arith, c.make_together.ensures.survives.clean) in
    let done = c.loop-changes.invariant.6 before begun in
    kept_both (state g.S.Store c.args.tx.now.conn.now) mid (state g.S.Store c.make_together.new.tx.conn.now) done.1 (c.make_together.ensures.kept clean done.0.mode)

pub returns-clause-done : goal.returns-clause-done
returns-clause-done g c clean begun =
    let was = c.loop-changes.invariant in
    let none = nil_from_length _ c.in-None.ensures.steps.1.0 in
    let all = rw (none, append-nil) at was.5 in
    subst (λ l. Changes c.args.first l (state g.S.Store c.args.tx.now.conn.now) (state g.S.Store c.loop-changes.tx.conn.now)) all (was.6 clean begun).0

pub returns-clause-opened : goal.returns-clause-opened
returns-clause-opened g c clean begun =
    let some = sym c.is_empty.ensures ∙ c.if-is_empty.false in
    (returns-clause-done g c clean begun).was_open (λ none. let e : (length c.args.batch.now == 0) ≡ true = ap (λ (l : List RowChange). length l == 0) none in absurd (false≢true (sym some ∙ e)))

pub returns-then-is_empty-clause-why : goal.returns-then-is_empty-clause-why
returns-then-is_empty-clause-why g c clean begun =
    let none = nil_from_length _ (eqb-true (length c.args.batch.now) 0 (sym c.is_empty.ensures ∙ c.if-is_empty.true)) in
    nothing_refused g.S.Store c.args.first c.args.batch.now c.args.tx.now.conn.now (state g.S.Store c.run.new.tx.conn.now) c.run.result none (c.run.ensures.why clean begun)

pub returns-in_err-make_together-clause-why : goal.returns-in_err-make_together-clause-why
returns-in_err-make_together-clause-why g c clean begun =
    let p = err_from_is_err_and c.from_residual.result c.from_residual.ensures.1 in
    let was = c.loop-changes.invariant in
    let mid = state g.S.Store c.loop-changes.tx.conn.now in
    let before : HasCleanDisk mid = omega (arith, c.make_together.ensures.survives.clean) in
    let done = was.6 before begun in
    rw (p.1, p.2) (within_refused g.S.Store c.args.first c.args.batch.now was.4 c.in-Some.changes.now _ c.args.tx.now.conn.now c.loop-changes.tx.conn.now (state g.S.Store c.make_together.new.tx.conn.now) c.in_err-make_together.field-0.0 (ap (λ l. was.4 ++ l) (sym c.in-Some.ensures.steps.1.0) ∙ was.5) was.3 before c.make_together.ensures.survives.counts done.1.was_open done.0 (c.in_err-make_together.ensures.why clean done.0.mode))
