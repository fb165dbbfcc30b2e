use Rattle.std.proofs.Common.{◌≡◌, ◌++◌, List, inr, refl, sym, subst, ◌∙◌, rules, arith}
use Rattle.sqlite.specs.Effect.{Database}
use Rattle.sqlite.specs.State.{HasCleanDisk, IsUnchanged}
use Rattle.sqlite.specs.Held.{state}
use Rattle.aq_rules.specs.Kept.Rows.{Row}
use Rattle.aq_tables.specs.All.{HasTables, rows_in}
use Rattle.aq_tables.specs.Told.{Reads, records, observations, loads, third}
use Rattle.aq_tables.proofs.OneTable.{read_in_turn}
use Rattle.std.proofs.lemmas.Result.{err_from_is_err_and}
use Rattle.aq_tables.specs.declared.reading.Table.TheVariants.{Records, Loads, Third}
use Rattle.aq_tables.specs.Texts.{read_text}
use Rattle.aq_tables.specs.Why.{OrBegun, RefusesAnswer, RefusesRows}
use Rattle.aq_tables.proofs.Causes.{caused_as}
use Rattle.aq_tables.proofs.Steps.{survives_both}
use Rattle.aq_tables.proofs.ReadRefused.{rows_refused, rows_since}
use Rattle.aq_tables.proofs.all.read_all.Goals as goal

pub returns-clause-rows : goal.returns-clause-rows
returns-clause-rows g c clean has =
    let old = state g.S.Store c.args.conn.now in
    let one = state g.S.Store c.read_table.new.conn in
    let two = state g.S.Store c.read_first.new.conn in
    let three = state g.S.Store c.read_table-2.new.conn in
    let last = state g.S.Store c.read_table-3.new.conn in
    let clean_three : HasCleanDisk three = omega (arith, c.read_table-3.ensures.crash.clean) in
    let clean_two : HasCleanDisk two = omega (arith, c.read_table-2.ensures.crash.clean) in
    let clean_one : HasCleanDisk one = omega (arith, c.read_first.ensures.crash.clean) in
    let same_one : IsUnchanged old one = search rules in
    let same_two : IsUnchanged one two = c.in_ok-read_first.ensures.same clean_two same_one.0.is_open in
    let same_three : IsUnchanged two three = search rules in
    let read_one : Reads records old.now c.new-found.result.items c.read_table.new.found.items = search rules in
    let read_three : Reads loads two.now c.read_first.new.found.items c.read_table-2.new.found.items = search rules in
    let read_four : Reads third three.now c.read_table-2.new.found.items c.read_table-3.new.found.items = search rules in
    let settled : old.now ≡ old.committed = c.is_autocommit.ensures.settled (search rules) same_one.0.was_open in
    let at_one = same_one.0.now_is ∙ settled in
    let at_two = same_two.0.now_is ∙ at_one in
    let at_three = same_three.0.now_is ∙ at_two in
    let tables : HasTables one.now = subst HasTables (sym at_one) has in
    let read_two = c.in_ok-read_first.ensures.rows clean_two tables.of_observations in
    c.from_vec.ensures
    ∙ read_in_turn old.committed has c.read_table.new.found.items c.read_first.new.found.items c.read_table-2.new.found.items c.read_table-3.new.found.items
    (subst (λ (rows : List Row). Reads records old.committed rows c.read_table.new.found.items) c.new-found.ensures.items (subst (λ (db : Database). Reads records db c.new-found.result.items c.read_table.new.found.items) settled read_one))
    (subst (λ (db : Database). c.read_first.new.found.items ≡ c.read_table.new.found.items ++ rows_in observations db) at_one read_two)
    (subst (λ (db : Database). Reads loads db c.read_first.new.found.items c.read_table-2.new.found.items) at_two read_three)
    (subst (λ (db : Database). Reads third db c.read_table-2.new.found.items c.read_table-3.new.found.items) at_three read_four)

pub returns-in_err-read_table-clause-why : goal.returns-in_err-read_table-clause-why
returns-in_err-read_table-clause-why g c clean =
    let old = state g.S.Store c.args.conn.now in
    let one = state g.S.Store c.read_table.new.conn in
    let p = err_from_is_err_and c.from_residual.result c.from_residual.ensures.1 in
    rw (p.1, p.2) (caused_as (RefusesAnswer Records (read_text Records) old) (OrBegun old (RefusesRows old)) old one c.in_err-read_table.field-0.0 (λ why. inr (Records, refl, why)) (c.in_err-read_table.ensures.why clean))

pub returns-in_err-read_first-clause-why : goal.returns-in_err-read_first-clause-why
returns-in_err-read_first-clause-why g c clean =
    let old = state g.S.Store c.args.conn.now in
    let one = state g.S.Store c.read_table.new.conn in
    let two = state g.S.Store c.read_first.new.conn in
    let clean_one : HasCleanDisk one = omega (arith, c.read_first.ensures.crash.clean) in
    let same_one : IsUnchanged old one = search rules in
    let p = err_from_is_err_and c.from_residual-in_err-read_first.result c.from_residual-in_err-read_first.ensures.1 in
    rw (p.1, p.2) (rows_since old one two (λ _. ⊥) c.in_err-read_first.field-0.0 c.read_table.ensures.crash clean_one c.read_first.ensures.crash.counts same_one.0.now_is (c.in_err-read_first.ensures.why clean))

pub returns-in_err-read_table-2-clause-why : goal.returns-in_err-read_table-2-clause-why
returns-in_err-read_table-2-clause-why g c clean =
    let old = state g.S.Store c.args.conn.now in
    let one = state g.S.Store c.read_table.new.conn in
    let two = state g.S.Store c.read_first.new.conn in
    let three = state g.S.Store c.read_table-2.new.conn in
    let clean_two : HasCleanDisk two = omega (arith, c.read_table-2.ensures.crash.clean) in
    let clean_one : HasCleanDisk one = omega (arith, c.read_first.ensures.crash.clean) in
    let same_one : IsUnchanged old one = search rules in
    let same_two : IsUnchanged one two = c.in_ok-read_first.ensures.same clean_two same_one.0.is_open in
    let p = err_from_is_err_and c.from_residual-in_err-read_table-2.result c.from_residual-in_err-read_table-2.ensures.1 in
    rw (p.1, p.2) (rows_since old two three (λ _. ⊥) c.in_err-read_table-2.field-0.0 (survives_both old one two c.read_table.ensures.crash c.read_first.ensures.crash) clean_two c.read_table-2.ensures.crash.counts (same_two.0.now_is ∙ same_one.0.now_is) (rows_refused Loads two three c.in_err-read_table-2.field-0.0 refl (c.in_err-read_table-2.ensures.why clean)))

pub returns-in_err-read_table-3-clause-why : goal.returns-in_err-read_table-3-clause-why
returns-in_err-read_table-3-clause-why g c clean =
    let old = state g.S.Store c.args.conn.now in
    let one = state g.S.Store c.read_table.new.conn in
    let two = state g.S.Store c.read_first.new.conn in
    let three = state g.S.Store c.read_table-2.new.conn in
    let last = state g.S.Store c.read_table-3.new.conn in
    let clean_three : HasCleanDisk three = omega (arith, c.read_table-3.ensures.crash.clean) in
    let clean_two : HasCleanDisk two = omega (arith, c.read_table-2.ensures.crash.clean) in
    let clean_one : HasCleanDisk one = omega (arith, c.read_first.ensures.crash.clean) in
    let same_one : IsUnchanged old one = search rules in
    let same_two : IsUnchanged one two = c.in_ok-read_first.ensures.same clean_two same_one.0.is_open in
    let same_three : IsUnchanged two three = search rules in
    let p = err_from_is_err_and c.from_residual-in_err-read_table-3.result c.from_residual-in_err-read_table-3.ensures.1 in
    rw (p.1, p.2) (rows_since old three last (λ _. ⊥) c.in_err-read_table-3.field-0.0 (survives_both old two three (survives_both old one two c.read_table.ensures.crash c.read_first.ensures.crash) c.read_table-2.ensures.crash) clean_three c.read_table-3.ensures.crash.counts (same_three.0.now_is ∙ same_two.0.now_is ∙ same_one.0.now_is) (rows_refused Third three last c.in_err-read_table-3.field-0.0 refl (c.in_err-read_table-3.ensures.why clean)))
