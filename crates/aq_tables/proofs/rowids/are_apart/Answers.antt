use Rattle.sqlite.specs.Held.{state}
use Rattle.aq_tables.proofs.RowidsApart.{apart}
use Rattle.aq_tables.proofs.TextsMeaning.{rowids_bare_of}
use Rattle.aq_tables.proofs.rowids.are_apart.Goals as goal

pub do_rise-requires : goal.do_rise-requires
do_rise-requires g c = rw c.rowids_of.ensures (rowids_bare_of c.args.table)

pub returns-clause-apart : goal.returns-clause-apart
returns-clause-apart g c clean =
    let rises = rw c.rowids_of.ensures at (c.do_rise.ensures.rise clean) in
    apart c.args.table c.do_rise.result (state g.S.Store c.args.conn.now).now rises

pub returns-clause-falls : goal.returns-clause-falls
returns-clause-falls g c clean = rw c.rowids_of.ensures at (c.do_rise.ensures.falls clean)

pub returns-clause-why : goal.returns-clause-why
returns-clause-why g c clean = rw c.rowids_of.ensures at (c.do_rise.ensures.why clean)
