use Rattle.std.proofs.Common.{◌∙◌}
use Rattle.aq_base.specs.Calendar.{quarter_of}
use Rattle.aq_particle_cells.specs.Pm10.Pm10Tallies.{captured_of}
use Rattle.aq_particle_cells.proofs.DaysLemmas.BagLemmas.{exchanged-at, item-at}
use Rattle.aq_particle_cells.proofs.pm10.tallies.Pm10Tallies.exchange_day.Goals as goal
use Rattle.aq_particle_cells.specs.Days.Tallied.{AreSumsOf}

pub exchange-requires-clause-old : goal.exchange-requires-clause-old
exchange-requires-clause-old g c =
    item-at AreSumsOf c.args.site (quarter_of c.args.day) c.number-quarter.result (captured_of c.args.old.now) c.captured.result c.args.self.now.samples
    (c.number-quarter.ensures.value ∙ c.quarter_of.ensures) c.captured.ensures c.requires.day

pub returns-clause-samples : goal.returns-clause-samples
returns-clause-samples g c =
    exchanged-at AreSumsOf c.args.site (quarter_of c.args.day) c.number-quarter.result (captured_of c.args.old.now) c.captured.result (captured_of c.args.new.now) c.captured-2.result
    c.args.self.now.samples c.exchange.new.tally (c.number-quarter.ensures.value ∙ c.quarter_of.ensures) c.captured.ensures c.captured-2.ensures c.in_ok-exchange.ensures.items
