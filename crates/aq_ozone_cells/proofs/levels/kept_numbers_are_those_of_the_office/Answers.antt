use Rattle.aq_ozone_cells.proofs.LevelLemmas as lemmas
use Rattle.aq_ozone_cells.proofs.levels.kept_numbers_are_those_of_the_office.Goals as goal

pub returns : goal.returns
returns c = record {
  average = lemmas.average-is;
  windows = lemmas.windows-are;
  day = lemmas.day-is;
  held = lemmas.are-held;
  year = lemmas.year-is;
}
