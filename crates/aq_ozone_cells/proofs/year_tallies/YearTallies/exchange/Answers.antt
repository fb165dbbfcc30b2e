use Rattle.aq_ozone_cells.specs.RankedMaxima.{AreRanksOf}
use Rattle.aq_ozone_cells.specs.YearTallies.{count_of, maximum_of, IsCountOf}
use Rattle.aq_ozone_cells.proofs.TallyLemmas.{bag-exchange, bag-others, bag-room}
use Rattle.aq_ozone_cells.proofs.year_tallies.YearTallies.exchange.Goals as goal

pub change-requires-clause-room : goal.change-requires-clause-room
change-requires-clause-room g c =
    bag-room AreRanksOf c.args.site c.args.year c.new-key.result c.new-key.ensures c.maximum_of-2.result (maximum_of c.args.old.now) c.requires.day.maxima
    c.args.self.now.maxima c.requires.day.few_maxima c.requires.day.bags.maxima_are

pub change-requires-2-clause-room : goal.change-requires-2-clause-room
change-requires-2-clause-room g c =
    bag-room IsCountOf c.args.site c.args.year c.new-key.result c.new-key.ensures c.count_of-2.result (count_of c.args.old.now) c.requires.day.counted
    c.args.self.now.counted c.requires.day.few_counted c.requires.day.bags.counted_are

pub returns-clause-day : goal.returns-clause-day
returns-clause-day g c maxima counted bags = record {
  maxima_are =
      bag-exchange AreRanksOf c.args.site c.args.year c.new-key.result c.new-key.ensures c.maximum_of.result c.maximum_of-2.result
      (maximum_of c.args.old.now) (maximum_of c.args.new.now) c.args.self.now.maxima c.change.new.self c.maximum_of.ensures c.maximum_of-2.ensures
      c.in_ok-change.ensures.bag maxima bags.maxima_are;
  counted_are =
      bag-exchange IsCountOf c.args.site c.args.year c.new-key.result c.new-key.ensures c.count_of.result c.count_of-2.result
      (count_of c.args.old.now) (count_of c.args.new.now) c.args.self.now.counted c.change-2.new.self c.count_of.ensures c.count_of-2.ensures
      c.in_ok-change-2.ensures.bag counted bags.counted_are;
}

pub returns-clause-others : goal.returns-clause-others
returns-clause-others g c other number maxima counted differ bags = record {
  maxima_are =
      bag-others AreRanksOf c.args.site c.args.year c.new-key.result c.new-key.ensures c.args.self.now.maxima c.change.new.self
      c.in_ok-change.ensures.others other number differ maxima bags.maxima_are;
  counted_are =
      bag-others IsCountOf c.args.site c.args.year c.new-key.result c.new-key.ensures c.args.self.now.counted c.change-2.new.self
      c.in_ok-change-2.ensures.others other number differ counted bags.counted_are;
}
