use Rattle.aq_measure.proofs.moved.moved_designs.Given as goal

abbrev pub ghosts-repeated : goal.ghosts-repeated
ghosts-repeated a = record { name = a.blank.name; parts = a.blank.parts }

abbrev pub ghosts-repeated_pair : goal.ghosts-repeated_pair
ghosts-repeated_pair a = record { name = a.blank.name; parts = a.blank.parts }
