use Rattle.aq_tests.proofs.pm25_cells.cells_are_filled_from_the_rows.Given as goal

abbrev pub ghosts-counts : goal.ghosts-counts
ghosts-counts g a = record { name = a.blank.name; parts = a.blank.parts }
