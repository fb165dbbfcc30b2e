use Rattle.aq_series.specs.OfficeView.{office_of}
use Rattle.aq_ozone_cells.specs.Filling.{observes}
use Rattle.aq_ozone_cells.proofs.FillLemmas.{IsWalk}
use Rattle.aq_ozone_cells.proofs.filling.fill_observed.Given as goal

abbrev pub invariant-loop-key : goal.invariant-loop-key
invariant-loop-key g l = IsWalk (office_of l.registry l.shelf) l.fn.cells l.cells l.week observes l.shelf l.key-iterator
