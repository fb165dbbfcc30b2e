use Rattle.std.proofs.Common.{◌≡◌, true, inl, inr, [], ◌∙◌, arith, rules}
use Rattle.sqlite.specs.State.{HasCleanDisk}
use Rattle.sqlite.specs.Held.{state}
use Rattle.aq_tables.proofs.MakeTexts.{makes_records, makes_loads}
use Rattle.aq_tables.proofs.Prepared.{if_ok}
use Rattle.aq_tables.proofs.Steps.{kept_both}
use Rattle.std.proofs.lemmas.Result.{err_from_is_err_and}
use Rattle.aq_tables.proofs.Causes.{answer_later, caused_as}
use Rattle.aq_tables.specs.WhyMade.{RefusesFirst}
use Rattle.aq_tables.specs.Why.{Refuses}
use Rattle.aq_tables.specs.Texts.{make_loads_text, make_records_text}
use Rattle.aq_tables.proofs.preparing.make_first.Goals as goal

pub returns-clause-done : goal.returns-clause-done
returns-clause-done g c clean begun =
    let old = state g.S.Store c.args.tx.now.conn.now in
    let mid = state g.S.Store c.run.new.tx.conn.now in
    let new = state g.S.Store c.run-2.new.tx.conn.now in
    let before : HasCleanDisk mid = omega (arith, c.run-2.ensures.survives.clean) in
    let a = c.in_ok-run.ensures.done before begun in
    let missing : c.args.are_missing ≡ true = search rules in
    if_ok c.run-2.result (λ b. record {
      mode = rw b.1.1.mode;
      was_open = λ _. a.1.1.was_open;
      committed = b.1.1.committed_is ∙ a.1.1.committed_is;
      changes = rw missing (mid.now, makes_records old mid a.0 a.1.0, makes_loads mid new b.0 b.1.0);
    }) (c.run-2.ensures.done clean (rw a.1.1.mode))

pub returns-clause-kept : goal.returns-clause-kept
returns-clause-kept g c clean begun =
    let mid = state g.S.Store c.run.new.tx.conn.now in
    let before : HasCleanDisk mid = omega (arith, c.run-2.ensures.survives.clean) in
    let a = c.in_ok-run.ensures.done before begun in
    kept_both (state g.S.Store c.args.tx.now.conn.now) mid (state g.S.Store c.run-2.new.tx.conn.now) (c.run.ensures.kept before begun) (c.run-2.ensures.kept clean (rw a.1.1.mode))

pub returns-in_err-run-clause-why : goal.returns-in_err-run-clause-why
returns-in_err-run-clause-why g c clean begun =
    let p = err_from_is_err_and c.from_residual.result c.from_residual.ensures.1 in
    let missing : c.args.are_missing ≡ true = search rules in
    rw (p.1, p.2) (caused_as (Refuses make_records_text [] (state g.S.Store c.args.tx.now.conn.now)) (λ e. (c.args.are_missing ≡ true) × RefusesFirst g.S.Store c.args.tx.now.conn.now e) (state g.S.Store c.args.tx.now.conn.now) (state g.S.Store c.run.new.tx.conn.now) c.in_err-run.field-0.0 (λ why. (missing, inl why)) (c.in_err-run.ensures.why clean begun))

pub returns-clause-why : goal.returns-clause-why
returns-clause-why g c clean begun =
    let mid = state g.S.Store c.run.new.tx.conn.now in
    let before : HasCleanDisk mid = omega (arith, c.run-2.ensures.survives.clean) in
    let a = c.in_ok-run.ensures.done before begun in
    let missing : c.args.are_missing ≡ true = search rules in
    answer_later (Refuses make_loads_text [] mid) (λ e. (c.args.are_missing ≡ true) × RefusesFirst g.S.Store c.args.tx.now.conn.now e) (state g.S.Store c.args.tx.now.conn.now) mid (state g.S.Store c.run-2.new.tx.conn.now) (λ _. ⊥) c.run-2.result c.run.ensures.survives before c.run-2.ensures.survives.counts
    (λ e why. (missing, inr (c.run.new.tx.conn.now, c.run.ensures.survives.limit, a, why))) (c.run-2.ensures.why clean (rw a.1.1.mode))
