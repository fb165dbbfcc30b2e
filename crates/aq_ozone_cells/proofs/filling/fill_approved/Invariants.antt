use Rattle.aq_rules.specs.Office.Approval.{approves}
use Rattle.aq_series.specs.OfficeView.{office_of}
use Rattle.aq_ozone_cells.proofs.FillLemmas.{IsWalk}
use Rattle.aq_ozone_cells.proofs.filling.fill_approved.Given as goal

abbrev pub invariant-loop-row : goal.invariant-loop-row
invariant-loop-row g l = IsWalk (office_of l.registry l.shelf) l.fn.cells l.cells l.week approves l.registry l.row-iterator
