use Rattle.sqlite.specs.Held.{state}
use Rattle.aq_tables.proofs.Whole.{none_before, read_before}
use Rattle.std.proofs.Common.{◌≡◌, false, rules}
use Rattle.std.proofs.lemmas.Result.{err_from_is_err_and}
use Rattle.aq_tables.specs.declared.reading.Table.TheVariants.{Second}
use Rattle.aq_tables.specs.Texts.{read_text}
use Rattle.aq_tables.specs.Why.{RefusesAnswer}
use Rattle.aq_tables.proofs.Causes.{caused_as}
use Rattle.aq_tables.proofs.preparing.rows_before.Goals as goal

pub returns-then-is_missing-clause-rows : goal.returns-then-is_missing-clause-rows
returns-then-is_missing-clause-rows g c clean there =
    none_before c.args.is_missing (state g.S.Store c.args.conn.now).now c.new-found.result.items c.if-is_missing.true c.new-found.ensures.items there

pub returns-clause-rows : goal.returns-clause-rows
returns-clause-rows g c clean there =
    read_before c.args.is_missing (state g.S.Store c.args.conn.now).now c.new-found.result.items c.read_table.new.found.items c.if-is_missing.false c.new-found.ensures.items there (c.in_ok-read_table.ensures.rows clean)

pub returns-in_err-read_table-clause-why : goal.returns-in_err-read_table-clause-why
returns-in_err-read_table-clause-why g c clean =
    let stands : c.args.is_missing ≡ false = search rules in
    let p = err_from_is_err_and c.from_residual.result c.from_residual.ensures.1 in
    rw (p.1, p.2) (caused_as (RefusesAnswer Second (read_text Second) (state g.S.Store c.args.conn.now)) (λ e. (c.args.is_missing ≡ false) × RefusesAnswer Second (read_text Second) (state g.S.Store c.args.conn.now) e) (state g.S.Store c.args.conn.now) (state g.S.Store c.read_table.new.conn) c.in_err-read_table.field-0.0 (λ why. (stands, why)) (c.in_err-read_table.ensures.why clean))
