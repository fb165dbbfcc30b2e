use Rattle.aq_staging.proofs.uncounted.content_at.Given as goal

abbrev pub ghosts-counted_at : goal.ghosts-counted_at
ghosts-counted_at a = record { name = a.blank.name; parts = a.blank.parts }
