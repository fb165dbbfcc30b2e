use Rattle.std.proofs.Common.{refl, ◌∙◌, arith}
use Rattle.std.proofs.lemmas.Result.{err_from_is_err_and}
use Rattle.sqlite.specs.State.{HasCleanDisk}
use Rattle.sqlite.specs.Held.{state}
use Rattle.aq_tables.specs.declared.reading.Table.TheVariants.{Records, Observations, Loads, Second, Third}
use Rattle.aq_tables.proofs.MakingRefused.{rowids_refused}
use Rattle.aq_tables.proofs.Steps.{survives_both, survives_here}
use Rattle.aq_tables.proofs.preparing.see_rows.Goals as goal

pub returns-in_err-see_table-clause-why : goal.returns-in_err-see_table-clause-why
returns-in_err-see_table-clause-why g c clean =
    let old = state g.S.Store c.args.conn.now in
    let one = state g.S.Store c.see_table.new.conn in
    let clean_old : HasCleanDisk old = omega (arith, c.see_table.ensures.crash.clean) in
    let p = err_from_is_err_and c.from_residual.result c.from_residual.ensures.1 in
    rw (p.1, p.2) (rowids_refused g.S.Store c.args.missing.now Records c.args.conn.now old one c.in_err-see_table.field-0.0 (survives_here old (λ _. ⊥)) clean_old c.see_table.ensures.crash.counts refl (c.in_err-see_table.ensures.why clean))

pub returns-in_err-see_table-2-clause-why : goal.returns-in_err-see_table-2-clause-why
returns-in_err-see_table-2-clause-why g c clean =
    let old = state g.S.Store c.args.conn.now in
    let one = state g.S.Store c.see_table.new.conn in
    let two = state g.S.Store c.see_table-2.new.conn in
    let clean_one : HasCleanDisk one = omega (arith, c.see_table-2.ensures.crash.clean) in
    let clean_old : HasCleanDisk old = omega (arith, c.see_table.ensures.crash.clean) in
    let p = err_from_is_err_and c.from_residual-in_err-see_table-2.result c.from_residual-in_err-see_table-2.ensures.1 in
    rw (p.1, p.2) (rowids_refused g.S.Store c.args.missing.now Observations c.args.conn.now one two c.in_err-see_table-2.field-0.0 c.see_table.ensures.crash clean_one c.see_table-2.ensures.crash.counts (c.in_ok-see_table.ensures.same clean_one) (c.in_err-see_table-2.ensures.why clean))

pub returns-in_err-see_table-3-clause-why : goal.returns-in_err-see_table-3-clause-why
returns-in_err-see_table-3-clause-why g c clean =
    let old = state g.S.Store c.args.conn.now in
    let one = state g.S.Store c.see_table.new.conn in
    let two = state g.S.Store c.see_table-2.new.conn in
    let three = state g.S.Store c.see_table-3.new.conn in
    let clean_two : HasCleanDisk two = omega (arith, c.see_table-3.ensures.crash.clean) in
    let clean_one : HasCleanDisk one = omega (arith, c.see_table-2.ensures.crash.clean) in
    let clean_old : HasCleanDisk old = omega (arith, c.see_table.ensures.crash.clean) in
    let p = err_from_is_err_and c.from_residual-in_err-see_table-3.result c.from_residual-in_err-see_table-3.ensures.1 in
    rw (p.1, p.2) (rowids_refused g.S.Store c.args.missing.now Loads c.args.conn.now two three c.in_err-see_table-3.field-0.0 (survives_both old one two c.see_table.ensures.crash c.see_table-2.ensures.crash) clean_two c.see_table-3.ensures.crash.counts (c.in_ok-see_table-2.ensures.same clean_two ∙ c.in_ok-see_table.ensures.same clean_one) (c.in_err-see_table-3.ensures.why clean))

pub returns-in_err-see_table-4-clause-why : goal.returns-in_err-see_table-4-clause-why
returns-in_err-see_table-4-clause-why g c clean =
    let old = state g.S.Store c.args.conn.now in
    let one = state g.S.Store c.see_table.new.conn in
    let two = state g.S.Store c.see_table-2.new.conn in
    let three = state g.S.Store c.see_table-3.new.conn in
    let four = state g.S.Store c.see_table-4.new.conn in
    let clean_three : HasCleanDisk three = omega (arith, c.see_table-4.ensures.crash.clean) in
    let clean_two : HasCleanDisk two = omega (arith, c.see_table-3.ensures.crash.clean) in
    let clean_one : HasCleanDisk one = omega (arith, c.see_table-2.ensures.crash.clean) in
    let clean_old : HasCleanDisk old = omega (arith, c.see_table.ensures.crash.clean) in
    let p = err_from_is_err_and c.from_residual-in_err-see_table-4.result c.from_residual-in_err-see_table-4.ensures.1 in
    rw (p.1, p.2) (rowids_refused g.S.Store c.args.missing.now Second c.args.conn.now three four c.in_err-see_table-4.field-0.0 (survives_both old two three (survives_both old one two c.see_table.ensures.crash c.see_table-2.ensures.crash) c.see_table-3.ensures.crash) clean_three c.see_table-4.ensures.crash.counts (c.in_ok-see_table-3.ensures.same clean_three ∙ c.in_ok-see_table-2.ensures.same clean_two ∙ c.in_ok-see_table.ensures.same clean_one) (c.in_err-see_table-4.ensures.why clean))

pub returns-in_err-see_table-5-clause-why : goal.returns-in_err-see_table-5-clause-why
returns-in_err-see_table-5-clause-why g c clean =
    let old = state g.S.Store c.args.conn.now in
    let one = state g.S.Store c.see_table.new.conn in
    let two = state g.S.Store c.see_table-2.new.conn in
    let three = state g.S.Store c.see_table-3.new.conn in
    let four = state g.S.Store c.see_table-4.new.conn in
    let five = state g.S.Store c.see_table-5.new.conn in
    let clean_four : HasCleanDisk four = omega (arith, c.see_table-5.ensures.crash.clean) in
    let clean_three : HasCleanDisk three = omega (arith, c.see_table-4.ensures.crash.clean) in
    let clean_two : HasCleanDisk two = omega (arith, c.see_table-3.ensures.crash.clean) in
    let clean_one : HasCleanDisk one = omega (arith, c.see_table-2.ensures.crash.clean) in
    let clean_old : HasCleanDisk old = omega (arith, c.see_table.ensures.crash.clean) in
    let p = err_from_is_err_and c.from_residual-in_err-see_table-5.result c.from_residual-in_err-see_table-5.ensures.1 in
    rw (p.1, p.2) (rowids_refused g.S.Store c.args.missing.now Third c.args.conn.now four five c.in_err-see_table-5.field-0.0 (survives_both old three four (survives_both old two three (survives_both old one two c.see_table.ensures.crash c.see_table-2.ensures.crash) c.see_table-3.ensures.crash) c.see_table-4.ensures.crash) clean_four c.see_table-5.ensures.crash.counts (c.in_ok-see_table-4.ensures.same clean_four ∙ c.in_ok-see_table-3.ensures.same clean_three ∙ c.in_ok-see_table-2.ensures.same clean_two ∙ c.in_ok-see_table.ensures.same clean_one) (c.in_err-see_table-5.ensures.why clean))
