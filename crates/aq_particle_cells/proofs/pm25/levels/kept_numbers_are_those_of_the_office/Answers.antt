use Rattle.aq_particle_cells.proofs.Pm25Lemmas.Pm25Office.{are-counted, year-is}
use Rattle.aq_particle_cells.proofs.pm25.levels.kept_numbers_are_those_of_the_office.Goals as goal

pub returns : goal.returns
returns c = record { counted = are-counted; year = year-is }
