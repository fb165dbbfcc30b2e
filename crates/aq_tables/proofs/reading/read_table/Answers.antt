use Rattle.sqlite.specs.Held.{state}
use Rattle.aq_tables.specs.Queries.{shown_by}
use Rattle.aq_tables.specs.Texts.{read_text}
use Rattle.aq_tables.specs.Told.{ours_of}
use Rattle.aq_tables.proofs.Answered.{tells}
use Rattle.aq_tables.proofs.RowTurns.{row_reads}
use Rattle.aq_tables.proofs.TextsMeaning.{read_bare_of}
use Rattle.aq_tables.proofs.reading.read_table.Goals as goal

pub take_all-requires : goal.take_all-requires
take_all-requires g c = rw c.query_of.ensures (read_bare_of c.args.table)

pub returns-clause-rows : goal.returns-clause-rows
returns-clause-rows g c clean =
    let db = (state g.S.Store c.args.conn.now).now in
    let takes = rw c.query_of.ensures at (c.take_all.ensures.rows clean) in
    tells (ours_of c.args.table) (read_text c.args.table) (shown_by c.args.table) db c.args.found.now.items c.take_all.new.found.items c.take_all.result (row_reads c.args.table db) takes

pub returns-clause-why : goal.returns-clause-why
returns-clause-why g c clean = rw c.query_of.ensures at (c.take_all.ensures.why clean)
