use Rattle.aq_particle_cells.proofs.Pm25Lemmas.Pm25Office.{unreached}
use Rattle.aq_particle_cells.proofs.pm25.levels.cells_out_of_reach_are_those_of_the_office_after_it.Goals as goal

pub returns : goal.returns
returns c old new days cell valid after kept out = unreached old new valid after days kept cell out
