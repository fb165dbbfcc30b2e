use Rattle.aq_book.proofs.book.Book.over.Given as goal

abbrev pub ghosts-cells_of : goal.ghosts-cells_of
ghosts-cells_of a = record { name = a.blank.name; parts = a.blank.parts }
