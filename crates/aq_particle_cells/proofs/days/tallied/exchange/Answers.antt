use Rattle.aq_particle_cells.proofs.DaysLemmas.BagLemmas.{item-exchanged, item-held, item-room}
use Rattle.aq_particle_cells.proofs.days.tallied.exchange.Goals as goal

pub change-requires-clause-old : goal.change-requires-clause-old
change-requires-clause-old g c = item-held g.A.Aggregate.is_of c.args.site c.args.time c.new.result c.new.ensures c.args.old c.args.tally.now c.requires.old

pub change-requires-clause-room : goal.change-requires-clause-room
change-requires-clause-room g c = item-room g.A.Aggregate.is_of c.args.site c.args.time c.new.result c.new.ensures c.args.new c.args.old c.args.tally.now c.requires.old

pub returns-clause-items : goal.returns-clause-items
returns-clause-items g c =
    item-exchanged g.A.Aggregate.is_of c.args.site c.args.time c.new.result c.new.ensures c.args.old c.args.new c.args.tally.now c.change.new.self
    c.in_ok-change.ensures.bag c.in_ok-change.ensures.others
