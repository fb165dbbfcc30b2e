use Rattle.aq_staging.proofs.uncounted.rows_of.Given as goal

abbrev pub ghosts-counted_rows : goal.ghosts-counted_rows
ghosts-counted_rows a = record { name = a.blank.name; parts = a.blank.parts }
