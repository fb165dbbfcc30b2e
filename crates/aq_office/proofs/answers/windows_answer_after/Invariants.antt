use Rattle.aq_office.proofs.answers.windows_answer_after.Given as goal

abbrev pub ghosts-windows_after : goal.ghosts-windows_after
ghosts-windows_after a = record { name = a.blank.name; parts = a.blank.parts }
