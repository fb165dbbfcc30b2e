use Rattle.aq_ozone_cells.proofs.UnreachedCells.{unreached}
use Rattle.aq_ozone_cells.proofs.levels.cells_out_of_reach_are_those_of_the_office_after_it.Goals as goal

pub returns : goal.returns
returns c old new cells cell valid after kept out = unreached old new valid after cells kept cell out
