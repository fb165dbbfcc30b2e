use Rattle.aq_particle_cells.proofs.Pm10Lemmas.Pm10Office.{are-counted, year-is}
use Rattle.aq_particle_cells.proofs.pm10.levels.kept_numbers_are_those_of_the_office.Goals as goal

pub returns : goal.returns
returns c = record { counted = are-counted; year = year-is }
