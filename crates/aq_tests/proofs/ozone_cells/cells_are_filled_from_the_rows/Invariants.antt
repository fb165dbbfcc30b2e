use Rattle.aq_tests.proofs.ozone_cells.cells_are_filled_from_the_rows.Given as goal

abbrev pub ghosts-counts_filled : goal.ghosts-counts_filled
ghosts-counts_filled g a = record { name = a.blank.name; parts = a.blank.parts }
