use Rattle.aq_cases.proofs.asked.changes_for.Given as goal

abbrev pub ghosts-counted_changes : goal.ghosts-counted_changes
ghosts-counted_changes a = record { name = a.blank.name; parts = a.blank.parts }
