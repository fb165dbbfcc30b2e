use Rattle.aq_tests.proofs.ozone_cells.a_year_follows_its_hours.Given as goal

abbrev pub ghosts-counts : goal.ghosts-counts
ghosts-counts g a = record { name = a.blank.name; parts = a.blank.parts }
