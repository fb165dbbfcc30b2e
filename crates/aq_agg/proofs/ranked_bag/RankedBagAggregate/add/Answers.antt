use Rattle.std.proofs.Common.{w32}
use Rattle.std.proofs.lemmas.Int.{to_z-of_z}
use Rattle.aq_agg.proofs.Ranked.{added}
use Rattle.aq_agg.proofs.ranked_bag.RankedBagAggregate.add.Goals as goal

pub returns-in-Ok-clause-ok : goal.returns-in-Ok-clause-ok
returns-in-Ok-clause-ok c bag are =
    rw (c.in-Ok.ensures.items, c.place_among-place.ensures.place, c.as_slice.ensures.value, to_z-of_z w32 c.args.item c.ranges.item)
    (added c.args.self.now.values.items bag c.args.item are)
