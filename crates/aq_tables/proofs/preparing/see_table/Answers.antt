use Rattle.std.proofs.Common.{◌≡◌, inr, false, rules}
use Rattle.std.proofs.lemmas.Result.{err_from_is_err_and}
use Rattle.sqlite.specs.Held.{state}
use Rattle.aq_tables.specs.Texts.{rowids_text}
use Rattle.aq_tables.specs.WhyMade.{RefusesRowids}
use Rattle.aq_tables.proofs.Causes.{caused_as}
use Rattle.aq_tables.proofs.preparing.see_table.Goals as goal

pub returns-in_err-are_apart-clause-why : goal.returns-in_err-are_apart-clause-why
returns-in_err-are_apart-clause-why g c clean =
    let stands : c.args.is_missing ≡ false = search rules in
    let p = err_from_is_err_and c.from_residual.result c.from_residual.ensures.1 in
    rw (p.1, p.2) (caused_as (RefusesRowids (rowids_text c.args.table) (state g.S.Store c.args.conn.now)) (λ e. (c.args.is_missing ≡ false) × RefusesRowids (rowids_text c.args.table) (state g.S.Store c.args.conn.now) e) (state g.S.Store c.args.conn.now) (state g.S.Store c.are_apart.new.conn) c.in_err-are_apart.field-0.0 (λ why. (stands, why)) (c.in_err-are_apart.ensures.why clean))

pub returns-else-branch-clause-why : goal.returns-else-branch-clause-why
returns-else-branch-clause-why g c clean =
    let stands : c.args.is_missing ≡ false = search rules in
    inr (inr (inr (stands, inr (inr (inr (c.in_ok-are_apart.ensures.falls clean c.if-branch.false))))))
