use Rattle.aq_tests.proofs.pm10_cells.a_day_has_the_value_that_it_was_given.Given as goal

abbrev pub ghosts-changed : goal.ghosts-changed
ghosts-changed g a = record { name = a.blank.name; parts = a.blank.parts }
