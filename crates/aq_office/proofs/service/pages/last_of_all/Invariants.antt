use Rattle.aq_office.proofs.service.pages.last_of_all.Given as goal

abbrev pub ghosts-last_counted : goal.ghosts-last_counted
ghosts-last_counted a = record { name = a.blank.name; parts = a.blank.parts }
