use Rattle.aq_measure.proofs.particles.pm25_designs.Given as goal

abbrev pub ghosts-repeated : goal.ghosts-repeated
ghosts-repeated a = record { name = a.blank.name; parts = a.blank.parts }
