use Rattle.aq_ozone_cells.specs.RankedMaxima.{AreRanksOf}
use Rattle.aq_ozone_cells.proofs.TallyLemmas.{bag-here}
use Rattle.aq_ozone_cells.proofs.year_tallies.YearTallies.maxima.Goals as goal

pub returns : goal.returns
returns c maxima counted bags =
    c.answer.ensures maxima (bag-here AreRanksOf c.args.site c.args.year c.new.result c.new.ensures maxima c.args.self.now.maxima bags.maxima_are)
