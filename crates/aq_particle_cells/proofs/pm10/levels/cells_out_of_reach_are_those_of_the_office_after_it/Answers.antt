use Rattle.aq_particle_cells.proofs.Pm10Lemmas.Pm10Office.{unreached}
use Rattle.aq_particle_cells.proofs.pm10.levels.cells_out_of_reach_are_those_of_the_office_after_it.Goals as goal

pub returns : goal.returns
returns c old new kept cell valid after all out = unreached old new valid after kept all cell out
