use Rattle.aq_tests.proofs.agg.tallies_answer.Given as goal

abbrev pub ghosts-answers_by_year : goal.ghosts-answers_by_year
ghosts-answers_by_year g a = record { name = a.blank.name; parts = a.blank.parts }
