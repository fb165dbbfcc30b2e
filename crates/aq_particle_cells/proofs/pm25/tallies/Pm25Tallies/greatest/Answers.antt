use Rattle.aq_particle_cells.specs.Pm25.Pm25Tallies.{AreGreatestOf}
use Rattle.aq_particle_cells.proofs.DaysLemmas.BagLemmas.{bag-here}
use Rattle.aq_particle_cells.proofs.Pm25Lemmas.TopOfEight.{eight-joined}
use Rattle.aq_particle_cells.proofs.pm25.tallies.Pm25Tallies.greatest.Goals as goal

pub returns : goal.returns
returns c bag has =
    eight-joined bag c.answer.result (c.answer.ensures bag (bag-here AreGreatestOf c.args.site c.args.year c.new.result c.new.ensures bag c.args.self.now.greatest has)) c.new-2.ensures
    c.joined.ensures c.joined-2.ensures c.joined-3.ensures c.joined-four.ensures c.joined-4.ensures c.joined-5.ensures c.joined-6.ensures c.joined-7.ensures
