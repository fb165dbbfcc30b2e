use Rattle.aq_office.proofs.service.pages.last_at.Given as goal

abbrev pub ghosts-last_at_counted : goal.ghosts-last_at_counted
ghosts-last_at_counted a = record { name = a.blank.name; parts = a.blank.parts }
