use Rattle.std.proofs.Common.{w32}
use Rattle.std.proofs.lemmas.Int.{to_z-of_z}
use Rattle.aq_agg.proofs.Ranked.{place-in, taken}
use Rattle.aq_agg.proofs.ranked_bag.RankedBagAggregate.take.Goals as goal

pub remove-requires : goal.remove-requires
remove-requires c =
    rw (c.place_among-place.ensures.place, ← c.as_slice.ensures.len, c.as_slice.ensures.value, to_z-of_z w32 c.args.item c.ranges.item)
    (place-in c.args.self.now.values.items c.requires.rest c.args.item c.requires.whole)

pub returns : goal.returns
returns c rest are =
    rw (c.remove.ensures.items, c.place_among-place.ensures.place, c.as_slice.ensures.value, to_z-of_z w32 c.args.item c.ranges.item)
    (taken c.args.self.now.values.items rest c.args.item are)
