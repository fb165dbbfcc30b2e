use Rattle.std.proofs.Common.{◌∙◌}
use Rattle.aq_rows.specs.KeptLoads.{stored_entry}
use Rattle.aq_rules.specs.Office.Office.{load_rank}
use Rattle.aq_rows.proofs.RisingEnds.{with_row-last}
use Rattle.aq_rows.proofs.walk.put_load.Goals as goal

pub returns-clause-ok : goal.returns-clause-ok
returns-clause-ok c =
    c.in_ok-put.ensures.ok ∙ with_row-last load_rank (stored_entry (c.args.number, c.args.kept)) c.args.loads.now c.requires.rising
