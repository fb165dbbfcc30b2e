use Rattle.aq_cases.proofs.asked.value.Given as goal

abbrev pub ghosts-counted_day : goal.ghosts-counted_day
ghosts-counted_day a = record { name = a.blank.name; parts = a.blank.parts }
