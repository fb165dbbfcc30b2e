use Rattle.std.proofs.Common.{◌++◌, sym, ap, ◌∙◌, append-nil}
use Rattle.sqlite.specs.Held.{state}
use Rattle.aq_tables.proofs.OneTable.{nothing_first, read_here}
use Rattle.aq_tables.proofs.Prepared.{if_ok}
use Rattle.aq_tables.specs.declared.reading.Table.TheVariants.{Observations}
use Rattle.aq_tables.specs.Texts.{read_text}
use Rattle.aq_tables.specs.Why.{RefusesAnswer, RefusesRows}
use Rattle.aq_tables.proofs.Causes.{answer_as}
use Rattle.aq_tables.proofs.all.read_first.Goals as goal

-- (the names of the two ways are guessed)

pub returns-then-not-first_stands-clause-rows : goal.returns-then-not-first_stands-clause-rows
returns-then-not-first_stands-clause-rows g c clean may =
    sym (ap (λ rows. c.args.found.now.items ++ rows) (nothing_first c.first_stands.result (state g.S.Store c.args.conn.now).now c.if-not-first_stands.true c.first_stands.ensures) ∙ append-nil c.args.found.now.items)

pub returns-clause-rows : goal.returns-clause-rows
returns-clause-rows g c clean =
    let db = (state g.S.Store c.args.conn.now).now in
    if_ok c.read_table.result (λ reads may. read_here db c.args.found.now.items c.read_table.new.found.items c.first_stands.result c.if-not-first_stands.false c.first_stands.ensures may reads) (c.read_table.ensures.rows clean)

pub returns-clause-why : goal.returns-clause-why
returns-clause-why g c clean =
    let old = state g.S.Store c.args.conn.now in
    answer_as (RefusesAnswer Observations (read_text Observations) old) (RefusesRows old) old (state g.S.Store c.read_table.new.conn) c.read_table.result (λ e why. (Observations, sym c.first_stands.ensures ∙ c.if-not-first_stands.false, why)) (c.read_table.ensures.why clean)
