use Rattle.aq_cases.proofs.asked.windows.Given as goal

abbrev pub ghosts-counted_windows : goal.ghosts-counted_windows
ghosts-counted_windows a = record { name = a.blank.name; parts = a.blank.parts }
