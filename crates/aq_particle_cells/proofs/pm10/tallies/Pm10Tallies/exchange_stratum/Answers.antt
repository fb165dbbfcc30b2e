use Rattle.std.proofs.Common.{◌∙◌, refl}
use Rattle.aq_base.specs.Calendar.{quarter_of}
use Rattle.aq_particle_cells.specs.Pm10.StrataTotals.{AreTotalsOf}
use Rattle.aq_particle_cells.proofs.DaysLemmas.BagLemmas.{exchanged-at, item-at}
use Rattle.aq_particle_cells.proofs.pm10.tallies.Pm10Tallies.exchange_stratum.Goals as goal

pub exchange-requires-clause-old : goal.exchange-requires-clause-old
exchange-requires-clause-old g c =
    item-at AreTotalsOf c.args.site (quarter_of c.args.first) c.number-quarter.result c.args.old c.args.old c.args.self.now.strata
    (c.number-quarter.ensures.value ∙ c.quarter_of.ensures) refl c.requires.stratum

pub returns-clause-strata : goal.returns-clause-strata
returns-clause-strata g c =
    exchanged-at AreTotalsOf c.args.site (quarter_of c.args.first) c.number-quarter.result c.args.old c.args.old c.args.new c.args.new
    c.args.self.now.strata c.exchange.new.tally (c.number-quarter.ensures.value ∙ c.quarter_of.ensures) refl refl c.in_ok-exchange.ensures.items
