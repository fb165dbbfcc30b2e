use Rattle.aq_cases.proofs.asked.windows_of_pair.Given as goal

abbrev pub ghosts-counted_pair : goal.ghosts-counted_pair
ghosts-counted_pair a = record { name = a.blank.name; parts = a.blank.parts }
