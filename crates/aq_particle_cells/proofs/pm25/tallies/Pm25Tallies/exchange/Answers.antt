use Rattle.std.proofs.Common.{◌∙◌}
use Rattle.aq_base.specs.Calendar.{quarter_of, year_of}
use Rattle.aq_particle_cells.specs.Pm25.DayValues.{AreValuesOf}
use Rattle.aq_particle_cells.specs.Days.KeptDays.{net_of}
use Rattle.aq_particle_cells.specs.Pm25.Pm25Tallies.{counted_of, AreGreatestOf}
use Rattle.aq_particle_cells.proofs.DaysLemmas.BagLemmas.{exchanged-at, item-at}
use Rattle.aq_particle_cells.proofs.DaysLemmas.ItemCounts.{net-particle}
use Rattle.aq_particle_cells.proofs.pm25.tallies.Pm25Tallies.exchange.Goals as goal
use Rattle.aq_particle_cells.specs.Days.Tallied.{AreSumsOf}

pub exchange-requires-clause-old : goal.exchange-requires-clause-old
exchange-requires-clause-old g c =
    item-at AreValuesOf c.args.site (quarter_of c.args.day) c.number-quarter.result (net_of c.args.old.now) c.net.result c.args.self.now.values
    (c.number-quarter.ensures.value ∙ c.quarter_of.ensures) c.net.ensures c.requires.day.values

pub exchange-requires-clause-new : goal.exchange-requires-clause-new
exchange-requires-clause-new g c = rw c.net-2.ensures (net-particle c.args.new.now.cell c.requires.range)

pub exchange-requires-2-clause-old : goal.exchange-requires-2-clause-old
exchange-requires-2-clause-old g c =
    item-at AreSumsOf c.args.site (quarter_of c.args.day) c.number-quarter.result (counted_of c.args.old.now) c.counted.result c.args.self.now.samples
    (c.number-quarter.ensures.value ∙ c.quarter_of.ensures) c.counted.ensures c.requires.day.samples

pub exchange-requires-3-clause-old : goal.exchange-requires-3-clause-old
exchange-requires-3-clause-old g c =
    item-at AreGreatestOf c.args.site (year_of c.args.day) c.civil_of-year.result.year (net_of c.args.old.now) c.net-3.result c.args.self.now.greatest
    c.civil_of-year.ensures.year c.net-3.ensures c.requires.day.greatest

pub returns-clause-day : goal.returns-clause-day
returns-clause-day g c =
    let quarter = c.number-quarter.ensures.value ∙ c.quarter_of.ensures in
    record {
      values =
          exchanged-at AreValuesOf c.args.site (quarter_of c.args.day) c.number-quarter.result (net_of c.args.old.now) c.net.result (net_of c.args.new.now) c.net-2.result
          c.args.self.now.values c.exchange.new.tally quarter c.net.ensures c.net-2.ensures c.in_ok-exchange.ensures.items;
      samples =
          exchanged-at AreSumsOf c.args.site (quarter_of c.args.day) c.number-quarter.result (counted_of c.args.old.now) c.counted.result (counted_of c.args.new.now) c.counted-2.result
          c.args.self.now.samples c.exchange-2.new.tally quarter c.counted.ensures c.counted-2.ensures c.in_ok-exchange-2.ensures.items;
      greatest =
          exchanged-at AreGreatestOf c.args.site (year_of c.args.day) c.civil_of-year.result.year (net_of c.args.old.now) c.net-3.result (net_of c.args.new.now) c.net-4.result
          c.args.self.now.greatest c.exchange-3.new.tally c.civil_of-year.ensures.year c.net-3.ensures c.net-4.ensures c.in_ok-exchange-3.ensures.items;
    }
