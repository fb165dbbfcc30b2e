use Rattle.aq_measure.proofs.designs.ozone_designs.Given as goal

abbrev pub ghosts-repeated : goal.ghosts-repeated
ghosts-repeated a = record { name = a.blank.name; parts = a.blank.parts }
