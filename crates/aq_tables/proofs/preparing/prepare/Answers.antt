use Rattle.std.proofs.Common.{IsTrue, arith, refl, sym, ap, subst, ◌∙◌}
use Rattle.std.proofs.lemmas.Result.{err_from_is_err_and}
use Rattle.sqlite.specs.Effect.{Database}
use Rattle.sqlite.specs.State.{HasCleanDisk}
use Rattle.sqlite.specs.Held.{state}
use Rattle.sqlite.proofs.StateLemmas.{survives_then}
use Rattle.aq_tables.specs.All.{HasTables, rows_in, rows_of}
use Rattle.aq_tables.specs.Made.{AreAllApart, IsMade, IsThere, LeavesOthers}
use Rattle.aq_tables.specs.Told.{second}
use Rattle.aq_tables.proofs.OurTables.{are_there}
use Rattle.aq_tables.proofs.Prepared.{both_clean, not_memory}
use Rattle.aq_tables.proofs.MakingRefused.{again_unseen, office_refused, second_unread, unmade_refused, unseen_refused}
use Rattle.aq_tables.proofs.Steps.{survives_both}
use Rattle.aq_tables.proofs.preparing.prepare.Goals as goal

pub commit_third-requires-clause-there : goal.commit_third-requires-clause-there
commit_third-requires-clause-there g c is_open =
    let one = state g.S.Store c.see_rows.new.conn in
    let two = state g.S.Store c.rows_before.new.conn in
    let clean = both_clean one two (g.met.S.Store.shut_if_dirty c.rows_before.new.conn.store) c.rows_before.ensures.crash.clean is_open in
    let seen = c.in_ok-see_rows.ensures in
    let apart = seen.apart clean.0 c.in_ok-missing.ensures.missing in
    let same = c.in_ok-rows.ensures.same clean.1 ∙ seen.same clean.0 in
    are_there c.in_ok-missing-2.missing two.now (c.in_ok-missing-2.ensures.live is_open).0 c.in_ok-missing-2.ensures.missing (subst AreAllApart (sym same) apart)

pub commit_third-requires-clause-rows : goal.commit_third-requires-clause-rows
commit_third-requires-clause-rows g c is_open =
    let old = state g.S.Store c.args.conn.now in
    let one = state g.S.Store c.see_rows.new.conn in
    let two = state g.S.Store c.rows_before.new.conn in
    let clean = both_clean one two (g.met.S.Store.shut_if_dirty c.rows_before.new.conn.store) c.rows_before.ensures.crash.clean is_open in
    let seen = c.in_ok-see_rows.ensures in
    let first = c.in_ok-missing.ensures in
    let open_one = (c.rows_before.ensures.kept clean.1).was_open is_open in
    let open_old = (c.see_rows.ensures.kept clean.0).was_open open_one in
    let there = are_there c.in_ok-missing.missing old.now (first.live open_old).0 first.missing (seen.apart clean.0 first.missing) in
    let here : IsThere c.in_ok-missing.missing.second second one.now = subst (IsThere c.in_ok-missing.missing.second second) (sym (seen.same clean.0)) there.of_second in
    c.as_slice.ensures.value ∙ c.in_ok-rows.ensures.rows clean.1 here ∙ ap (rows_in second) (sym (c.in_ok-rows.ensures.same clean.1))

pub returns-in_err-missing-clause-other : goal.returns-in_err-missing-clause-other
returns-in_err-missing-clause-other g c _ =
    let p = err_from_is_err_and c.from_residual.result c.from_residual.ensures.1 in
    (refl, rw (p.1, p.2) (not_memory c.in_err-missing.field-0.0 c.in_err-missing.ensures.refused))

pub returns-clause-was_open : goal.returns-clause-was_open
returns-clause-was_open g c h =
    let two = state g.S.Store c.rows_before.new.conn in
    let late = both_clean two (state g.S.Store c.commit_third.new.conn) (g.met.S.Store.shut_if_dirty c.commit_third.new.conn.store) c.commit_third.ensures.crash.clean h in
    let open_two = c.in_ok-commit_third.ensures.was_open late.1 h in
    let early = both_clean (state g.S.Store c.see_rows.new.conn) two (g.met.S.Store.shut_if_dirty c.rows_before.new.conn.store) c.rows_before.ensures.crash.clean open_two in
    (c.see_rows.ensures.kept early.0).was_open ((c.rows_before.ensures.kept early.1).was_open open_two)

pub returns-clause-stand : goal.returns-clause-stand
returns-clause-stand g c h =
    let late = both_clean (state g.S.Store c.rows_before.new.conn) (state g.S.Store c.commit_third.new.conn) (g.met.S.Store.shut_if_dirty c.commit_third.new.conn.store) c.commit_third.ensures.crash.clean h in
    let ends = c.in_ok-commit_third.ensures in
    subst HasTables (ends.settled late.1 h) (ends.made late.1 h).tables

pub returns-clause-same : goal.returns-clause-same
returns-clause-same g c h =
    let two = state g.S.Store c.rows_before.new.conn in
    let late = both_clean two (state g.S.Store c.commit_third.new.conn) (g.met.S.Store.shut_if_dirty c.commit_third.new.conn.store) c.commit_third.ensures.crash.clean h in
    let ends = c.in_ok-commit_third.ensures in
    let early = both_clean (state g.S.Store c.see_rows.new.conn) two (g.met.S.Store.shut_if_dirty c.rows_before.new.conn.store) c.rows_before.ensures.crash.clean (ends.was_open late.1 h) in
    let began = c.in_ok-missing.ensures.settled (returns-clause-was_open g c h) in
    ap rows_of (sym (ends.settled late.1 h)) ∙ (ends.made late.1 h).tells ∙ ap rows_of (c.in_ok-rows.ensures.same early.1 ∙ c.in_ok-see_rows.ensures.same early.0 ∙ began)

pub returns-clause-others : goal.returns-clause-others
returns-clause-others g c h =
    let two = state g.S.Store c.rows_before.new.conn in
    let late = both_clean two (state g.S.Store c.commit_third.new.conn) (g.met.S.Store.shut_if_dirty c.commit_third.new.conn.store) c.commit_third.ensures.crash.clean h in
    let ends = c.in_ok-commit_third.ensures in
    let early = both_clean (state g.S.Store c.see_rows.new.conn) two (g.met.S.Store.shut_if_dirty c.rows_before.new.conn.store) c.rows_before.ensures.crash.clean (ends.was_open late.1 h) in
    let began = c.in_ok-missing.ensures.settled (returns-clause-was_open g c h) in
    let same = c.in_ok-rows.ensures.same early.1 ∙ c.in_ok-see_rows.ensures.same early.0 ∙ began in
    subst (LeavesOthers (state g.S.Store c.args.conn.now).committed) (ends.settled late.1 h) (subst (λ (db : Database). LeavesOthers db (state g.S.Store c.commit_third.new.conn).now) same (ends.made late.1 h).others)

pub returns-clause-crash : goal.returns-clause-crash
returns-clause-crash g c =
    let one = state g.S.Store c.see_rows.new.conn in
    let two = state g.S.Store c.rows_before.new.conn in
    survives_then (state g.S.Store c.args.conn.now) two (state g.S.Store c.commit_third.new.conn) _ _ _ (λ _ _ none. absurd none)
    (λ clean trees it.
    let late : HasCleanDisk two = omega (arith, c.commit_third.ensures.crash.clean, clean) in
    let early : HasCleanDisk one = omega (arith, c.rows_before.ensures.crash.clean, late) in
    (it.0, subst (λ (db : Database). IsMade db it.0) (c.in_ok-rows.ensures.same late ∙ c.in_ok-see_rows.ensures.same early) it.1, it.2))
    (survives_then (state g.S.Store c.args.conn.now) one two _ _ _ (λ _ _ none. absurd none) (λ _ _ none. absurd none) c.see_rows.ensures.crash c.rows_before.ensures.crash)
    c.commit_third.ensures.crash

pub returns-in_err-missing-clause-why : goal.returns-in_err-missing-clause-why
returns-in_err-missing-clause-why g c clean =
    let p = err_from_is_err_and c.from_residual.result c.from_residual.ensures.1 in
    rw (p.1, p.2) (unseen_refused g.S.Store c.args.conn.now (state g.S.Store c.args.conn.now) c.in_err-missing.field-0.0 c.in_err-missing.ensures.refused)

pub returns-in_err-see_rows-clause-why : goal.returns-in_err-see_rows-clause-why
returns-in_err-see_rows-clause-why g c clean =
    let p = err_from_is_err_and c.from_residual-in_err-see_rows.result c.from_residual-in_err-see_rows.ensures.1 in
    rw (p.1, p.2) (office_refused g.S.Store c.in_ok-missing.missing c.args.conn.now (state g.S.Store c.see_rows.new.conn) c.in_err-see_rows.field-0.0 c.in_ok-missing.ensures.missing (c.in_err-see_rows.ensures.why clean))

pub returns-in_err-rows-clause-why : goal.returns-in_err-rows-clause-why
returns-in_err-rows-clause-why g c clean =
    let one = state g.S.Store c.see_rows.new.conn in
    let two = state g.S.Store c.rows_before.new.conn in
    let clean_one : HasCleanDisk one = omega (arith, c.rows_before.ensures.crash.clean) in
    let p = err_from_is_err_and c.from_residual-in_err-rows.result c.from_residual-in_err-rows.ensures.1 in
    rw (p.1, p.2) (second_unread g.S.Store c.in_ok-missing.missing c.args.conn.now one two c.in_err-rows.field-0.0 c.in_ok-missing.ensures.missing c.see_rows.ensures.crash clean_one c.rows_before.ensures.crash.counts (c.in_ok-see_rows.ensures.same clean_one) (c.in_err-rows.ensures.why clean))

pub returns-in_err-missing-2-clause-why : goal.returns-in_err-missing-2-clause-why
returns-in_err-missing-2-clause-why g c clean =
    let one = state g.S.Store c.see_rows.new.conn in
    let two = state g.S.Store c.rows_before.new.conn in
    let clean_one : HasCleanDisk one = omega (arith, c.rows_before.ensures.crash.clean) in
    let same = c.in_ok-rows.ensures.same clean ∙ c.in_ok-see_rows.ensures.same clean_one in
    let alone = c.rows_before.ensures.mode (c.see_rows.ensures.mode c.in_ok-missing.ensures.alone) in
    let p = err_from_is_err_and c.from_residual-in_err-missing-2.result c.from_residual-in_err-missing-2.ensures.1 in
    rw (p.1, p.2) (again_unseen g.S.Store c.args.conn.now c.rows_before.new.conn two c.in_err-missing-2.field-0.0 alone same c.in_err-missing-2.ensures.refused)

pub returns-in_err-commit_third-clause-why : goal.returns-in_err-commit_third-clause-why
returns-in_err-commit_third-clause-why g c clean =
    let old = state g.S.Store c.args.conn.now in
    let one = state g.S.Store c.see_rows.new.conn in
    let two = state g.S.Store c.rows_before.new.conn in
    let last = state g.S.Store c.commit_third.new.conn in
    let clean_two : HasCleanDisk two = omega (arith, c.commit_third.ensures.crash.clean) in
    let clean_one : HasCleanDisk one = omega (arith, c.rows_before.ensures.crash.clean) in
    let seen = c.in_ok-see_rows.ensures in
    let first = c.in_ok-missing.ensures in
    let same = c.in_ok-rows.ensures.same clean_two ∙ seen.same clean_one in
    let rows = λ (is_open : IsTrue two.is_open).
    let open_old = (c.see_rows.ensures.kept clean_one).was_open ((c.rows_before.ensures.kept clean_two).was_open is_open) in
    let there = are_there c.in_ok-missing.missing old.now (first.live open_old).0 first.missing (seen.apart clean_one first.missing) in
    let here : IsThere c.in_ok-missing.missing.second second one.now = subst (IsThere c.in_ok-missing.missing.second second) (sym (seen.same clean_one)) there.of_second in
    c.as_slice.ensures.value ∙ c.in_ok-rows.ensures.rows clean_two here ∙ ap (rows_in second) (sym (c.in_ok-rows.ensures.same clean_two))
    in
    let p = err_from_is_err_and c.from_residual-in_err-commit_third.result c.from_residual-in_err-commit_third.ensures.1 in
    rw (p.1, p.2) (unmade_refused g.S.Store c.in_ok-missing-2.missing c.as_slice.result.now c.args.conn.now c.rows_before.new.conn last c.in_err-commit_third.field-0.0 c.in_ok-missing-2.ensures.missing (survives_both old one two c.see_rows.ensures.crash c.rows_before.ensures.crash) clean_two
    c.commit_third.ensures.crash.counts same rows (c.in_err-commit_third.ensures.why clean))
