use Rattle.aq_rules.specs.Lines.Reading.{OfOffice}
use Rattle.aq_rd.proofs.ReadingOrder.{reads-clauses}
use Rattle.aq_forms.proofs.OfficeOrder.{reads-line}
use Rattle.aq_forms.proofs.read.read_line.Goals as goal

pub returns : goal.returns
returns c =
    reads-clauses OfOffice c.args.line.now _ (rw c.read_in_order-read.ensures (reads-line c.args.line.now c.requires)) (c.what_a_line_spells_is_in_range.ensures c.args.line.now)
