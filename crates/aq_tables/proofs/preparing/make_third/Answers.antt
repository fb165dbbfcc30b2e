use Rattle.std.proofs.Common.{◌≡◌, inl, inr, [], true, false, sym, ◌∙◌, arith}
use Rattle.sqlite.specs.State.{HasCleanDisk}
use Rattle.sqlite.specs.Held.{state}
use Rattle.aq_tables.proofs.MakeTexts.{makes_third}
use Rattle.aq_tables.proofs.Moved.{is_made}
use Rattle.aq_tables.proofs.Prepared.{if_ok}
use Rattle.aq_tables.proofs.Steps.{kept_both, survives_both}
use Rattle.aq_tables.proofs.Viewing.{adds_the_view}
use Rattle.std.proofs.lemmas.Result.{err_from_is_err_and}
use Rattle.aq_tables.proofs.Causes.{answer_later, caused_as, caused_later}
use Rattle.aq_tables.specs.Why.{Refuses}
use Rattle.aq_tables.specs.WhyMade.{RefusesFirst, RefusesMaking, RefusesMoves}
use Rattle.aq_tables.specs.Texts.{drop_second_text, make_third_text, view_text}
use Rattle.aq_tables.proofs.preparing.make_third.Goals as goal

pub returns-clause-done : goal.returns-clause-done
returns-clause-done g c clean begun =
    let old = state g.S.Store c.args.tx.now.conn.now in
    let one = state g.S.Store c.make_first.new.tx.conn.now in
    let two = state g.S.Store c.run.new.tx.conn.now in
    let three = state g.S.Store c.put_all.new.tx.conn.now in
    let four = state g.S.Store c.drop_second.new.tx.conn.now in
    let last = state g.S.Store c.run-2.new.tx.conn.now in
    let clean_four : HasCleanDisk four = omega (arith, c.run-2.ensures.survives.clean) in
    let clean_three : HasCleanDisk three = omega (arith, c.drop_second.ensures.survives.clean) in
    let clean_two : HasCleanDisk two = omega (arith, c.put_all.ensures.survives.clean) in
    let clean_one : HasCleanDisk one = omega (arith, c.run.ensures.survives.clean) in
    let a = c.in_ok-make_first.ensures.done clean_one begun in
    let b = c.in_ok-run.ensures.done clean_two a.mode in
    let p = c.in_ok-put_all.ensures.done clean_three (rw b.1.1.mode) in
    let q = c.in_ok-drop_second.ensures.done clean_four p.mode in
    if_ok c.run-2.result (λ w. record {
      mode = rw w.1.1.mode;
      was_open = a.was_open b.1.1.was_open;
      committed = w.1.1.committed_is ∙ q.committed ∙ p.committed ∙ b.1.1.committed_is ∙ a.committed;
      changes = λ no_third both there rows.
          is_made c.args.missing.now old.now one.now two.now three.now four.now last.now p.found no_third both there a.changes (makes_third one two b.0 b.1.0) p.puts (sym p.are ∙ rows) q.changes (adds_the_view four last w.0 w.1.0);
    }) (c.run-2.ensures.done clean q.mode)

pub returns-in_err-run-clause-kept : goal.returns-in_err-run-clause-kept
returns-in_err-run-clause-kept g c clean begun =
    let old = state g.S.Store c.args.tx.now.conn.now in
    let one = state g.S.Store c.make_first.new.tx.conn.now in
    let two = state g.S.Store c.run.new.tx.conn.now in
    let clean_one : HasCleanDisk one = omega (arith, c.run.ensures.survives.clean) in
    let a = c.in_ok-make_first.ensures.done clean_one begun in
    kept_both old one two (c.make_first.ensures.kept clean_one begun) (c.run.ensures.kept clean a.mode)

pub returns-in_err-put_all-clause-kept : goal.returns-in_err-put_all-clause-kept
returns-in_err-put_all-clause-kept g c clean begun =
    let old = state g.S.Store c.args.tx.now.conn.now in
    let one = state g.S.Store c.make_first.new.tx.conn.now in
    let two = state g.S.Store c.run.new.tx.conn.now in
    let three = state g.S.Store c.put_all.new.tx.conn.now in
    let clean_two : HasCleanDisk two = omega (arith, c.put_all.ensures.survives.clean) in
    let clean_one : HasCleanDisk one = omega (arith, c.run.ensures.survives.clean) in
    let a = c.in_ok-make_first.ensures.done clean_one begun in
    let b = c.in_ok-run.ensures.done clean_two a.mode in
    kept_both old two three (kept_both old one two (c.make_first.ensures.kept clean_one begun) (c.run.ensures.kept clean_two a.mode)) (c.put_all.ensures.kept clean (rw b.1.1.mode))

pub returns-in_err-drop_second-clause-kept : goal.returns-in_err-drop_second-clause-kept
returns-in_err-drop_second-clause-kept g c clean begun =
    let old = state g.S.Store c.args.tx.now.conn.now in
    let one = state g.S.Store c.make_first.new.tx.conn.now in
    let two = state g.S.Store c.run.new.tx.conn.now in
    let three = state g.S.Store c.put_all.new.tx.conn.now in
    let four = state g.S.Store c.drop_second.new.tx.conn.now in
    let clean_three : HasCleanDisk three = omega (arith, c.drop_second.ensures.survives.clean) in
    let clean_two : HasCleanDisk two = omega (arith, c.put_all.ensures.survives.clean) in
    let clean_one : HasCleanDisk one = omega (arith, c.run.ensures.survives.clean) in
    let a = c.in_ok-make_first.ensures.done clean_one begun in
    let b = c.in_ok-run.ensures.done clean_two a.mode in
    let p = c.in_ok-put_all.ensures.done clean_three (rw b.1.1.mode) in
    kept_both old three four
    (kept_both old two three (kept_both old one two (c.make_first.ensures.kept clean_one begun) (c.run.ensures.kept clean_two a.mode)) (c.put_all.ensures.kept clean_three (rw b.1.1.mode)))
    (c.drop_second.ensures.kept clean p.mode)

pub returns-clause-kept : goal.returns-clause-kept
returns-clause-kept g c clean begun =
    let old = state g.S.Store c.args.tx.now.conn.now in
    let one = state g.S.Store c.make_first.new.tx.conn.now in
    let two = state g.S.Store c.run.new.tx.conn.now in
    let three = state g.S.Store c.put_all.new.tx.conn.now in
    let four = state g.S.Store c.drop_second.new.tx.conn.now in
    let last = state g.S.Store c.run-2.new.tx.conn.now in
    let clean_four : HasCleanDisk four = omega (arith, c.run-2.ensures.survives.clean) in
    let clean_three : HasCleanDisk three = omega (arith, c.drop_second.ensures.survives.clean) in
    let clean_two : HasCleanDisk two = omega (arith, c.put_all.ensures.survives.clean) in
    let clean_one : HasCleanDisk one = omega (arith, c.run.ensures.survives.clean) in
    let a = c.in_ok-make_first.ensures.done clean_one begun in
    let b = c.in_ok-run.ensures.done clean_two a.mode in
    let p = c.in_ok-put_all.ensures.done clean_three (rw b.1.1.mode) in
    let q = c.in_ok-drop_second.ensures.done clean_four p.mode in
    kept_both old four last
    (kept_both old three four
    (kept_both old two three (kept_both old one two (c.make_first.ensures.kept clean_one begun) (c.run.ensures.kept clean_two a.mode)) (c.put_all.ensures.kept clean_three (rw b.1.1.mode)))
    (c.drop_second.ensures.kept clean_four p.mode))
    (c.run-2.ensures.kept clean q.mode)

pub returns-in_err-make_first-clause-why : goal.returns-in_err-make_first-clause-why
returns-in_err-make_first-clause-why g c clean begun =
    let p = err_from_is_err_and c.from_residual.result c.from_residual.ensures.1 in
    rw (p.1, p.2) (caused_as (λ e. (c.args.missing.now.records ≡ true) × RefusesFirst g.S.Store c.args.tx.now.conn.now e) (RefusesMaking g.S.Store c.args.missing.now c.args.rows.now c.args.tx.now.conn.now) (state g.S.Store c.args.tx.now.conn.now) (state g.S.Store c.make_first.new.tx.conn.now) c.in_err-make_first.field-0.0 (λ why. inl why) (c.in_err-make_first.ensures.why clean begun))

pub returns-in_err-run-clause-why : goal.returns-in_err-run-clause-why
returns-in_err-run-clause-why g c clean begun =
    let old = state g.S.Store c.args.tx.now.conn.now in
    let one = state g.S.Store c.make_first.new.tx.conn.now in
    let two = state g.S.Store c.run.new.tx.conn.now in
    let clean_one : HasCleanDisk one = omega (arith, c.run.ensures.survives.clean) in
    let a = c.in_ok-make_first.ensures.done clean_one begun in
    let p = err_from_is_err_and c.from_residual-in_err-run.result c.from_residual-in_err-run.ensures.1 in
    rw (p.1, p.2) (caused_later (Refuses make_third_text [] one) (RefusesMaking g.S.Store c.args.missing.now c.args.rows.now c.args.tx.now.conn.now) old one two (λ _. ⊥) c.in_err-run.field-0.0 c.make_first.ensures.survives clean_one c.run.ensures.survives.counts
    (λ why. inr (c.make_first.new.tx.conn.now, c.make_first.ensures.survives.limit, a, inl why)) (c.in_err-run.ensures.why clean a.mode))

pub returns-in_err-put_all-clause-why : goal.returns-in_err-put_all-clause-why
returns-in_err-put_all-clause-why g c clean begun =
    let old = state g.S.Store c.args.tx.now.conn.now in
    let one = state g.S.Store c.make_first.new.tx.conn.now in
    let two = state g.S.Store c.run.new.tx.conn.now in
    let three = state g.S.Store c.put_all.new.tx.conn.now in
    let clean_two : HasCleanDisk two = omega (arith, c.put_all.ensures.survives.clean) in
    let clean_one : HasCleanDisk one = omega (arith, c.run.ensures.survives.clean) in
    let a = c.in_ok-make_first.ensures.done clean_one begun in
    let b = c.in_ok-run.ensures.done clean_two a.mode in
    let p = err_from_is_err_and c.from_residual-in_err-put_all.result c.from_residual-in_err-put_all.ensures.1 in
    rw (p.1, p.2) (caused_later (RefusesMoves g.S.Store c.args.rows.now c.run.new.tx.conn.now) (RefusesMaking g.S.Store c.args.missing.now c.args.rows.now c.args.tx.now.conn.now) old two three (λ _. ⊥) c.in_err-put_all.field-0.0 (survives_both old one two c.make_first.ensures.survives c.run.ensures.survives) clean_two c.put_all.ensures.survives.counts
    (λ why. inr (c.make_first.new.tx.conn.now, c.make_first.ensures.survives.limit, a, inr (c.run.new.tx.conn.now, c.run.ensures.survives.limit, b, inl why))) (c.in_err-put_all.ensures.why clean (rw b.1.1.mode)))

pub returns-in_err-drop_second-clause-why : goal.returns-in_err-drop_second-clause-why
returns-in_err-drop_second-clause-why g c clean begun =
    let old = state g.S.Store c.args.tx.now.conn.now in
    let one = state g.S.Store c.make_first.new.tx.conn.now in
    let two = state g.S.Store c.run.new.tx.conn.now in
    let three = state g.S.Store c.put_all.new.tx.conn.now in
    let four = state g.S.Store c.drop_second.new.tx.conn.now in
    let clean_three : HasCleanDisk three = omega (arith, c.drop_second.ensures.survives.clean) in
    let clean_two : HasCleanDisk two = omega (arith, c.put_all.ensures.survives.clean) in
    let clean_one : HasCleanDisk one = omega (arith, c.run.ensures.survives.clean) in
    let a = c.in_ok-make_first.ensures.done clean_one begun in
    let b = c.in_ok-run.ensures.done clean_two a.mode in
    let p2 = c.in_ok-put_all.ensures.done clean_three (rw b.1.1.mode) in
    let p = err_from_is_err_and c.from_residual-in_err-drop_second.result c.from_residual-in_err-drop_second.ensures.1 in
    rw (p.1, p.2) (caused_later (λ e. (c.args.missing.now.second ≡ false) × Refuses drop_second_text [] three e) (RefusesMaking g.S.Store c.args.missing.now c.args.rows.now c.args.tx.now.conn.now) old three four (λ _. ⊥) c.in_err-drop_second.field-0.0 (survives_both old two three (survives_both old one two c.make_first.ensures.survives c.run.ensures.survives) c.put_all.ensures.survives) clean_three c.drop_second.ensures.survives.counts
    (λ why. inr (c.make_first.new.tx.conn.now, c.make_first.ensures.survives.limit, a, inr (c.run.new.tx.conn.now, c.run.ensures.survives.limit, b, inr (c.put_all.new.tx.conn.now, c.put_all.ensures.survives.limit, p2, inl why)))) (c.in_err-drop_second.ensures.why clean p2.mode))

pub returns-clause-why : goal.returns-clause-why
returns-clause-why g c clean begun =
    let old = state g.S.Store c.args.tx.now.conn.now in
    let one = state g.S.Store c.make_first.new.tx.conn.now in
    let two = state g.S.Store c.run.new.tx.conn.now in
    let three = state g.S.Store c.put_all.new.tx.conn.now in
    let four = state g.S.Store c.drop_second.new.tx.conn.now in
    let last = state g.S.Store c.run-2.new.tx.conn.now in
    let clean_four : HasCleanDisk four = omega (arith, c.run-2.ensures.survives.clean) in
    let clean_three : HasCleanDisk three = omega (arith, c.drop_second.ensures.survives.clean) in
    let clean_two : HasCleanDisk two = omega (arith, c.put_all.ensures.survives.clean) in
    let clean_one : HasCleanDisk one = omega (arith, c.run.ensures.survives.clean) in
    let a = c.in_ok-make_first.ensures.done clean_one begun in
    let b = c.in_ok-run.ensures.done clean_two a.mode in
    let p2 = c.in_ok-put_all.ensures.done clean_three (rw b.1.1.mode) in
    let q = c.in_ok-drop_second.ensures.done clean_four p2.mode in
    answer_later (Refuses view_text [] four) (RefusesMaking g.S.Store c.args.missing.now c.args.rows.now c.args.tx.now.conn.now) old four last (λ _. ⊥) c.run-2.result (survives_both old three four (survives_both old two three (survives_both old one two c.make_first.ensures.survives c.run.ensures.survives) c.put_all.ensures.survives) c.drop_second.ensures.survives) clean_four c.run-2.ensures.survives.counts
    (λ e why. inr (c.make_first.new.tx.conn.now, c.make_first.ensures.survives.limit, a, inr (c.run.new.tx.conn.now, c.run.ensures.survives.limit, b, inr (c.put_all.new.tx.conn.now, c.put_all.ensures.survives.limit, p2, inr (c.drop_second.new.tx.conn.now, c.drop_second.ensures.survives.limit, q, why))))) (c.run-2.ensures.why clean q.mode)
