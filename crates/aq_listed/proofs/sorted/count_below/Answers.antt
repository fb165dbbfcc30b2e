use Rattle.std.proofs.Common.{rules, sym, Bool}
use Rattle.std.specs.Ordering.{is_lt}
use Rattle.std.proofs.lemmas.List.Sorted.{IsPartitionPoint-from_clause}
use Rattle.aq_listed.proofs.Counted.{count-point, parted-below}
use Rattle.aq_listed.proofs.sorted.count_below.Goals as goal

pub returns : goal.returns
returns g c =
    let passes : g.row.T.Denot → Bool = λ item. is_lt (g.T.Ord.cmp item c.args.bound.now) in
    let parted = parted-below g.met.T.Ord.total c.args.bound.now c.args.items.now c.requires in
    sym (count-point passes c.args.items.now c.partition_point.result c.partition_point.ensures.bound
    (IsPartitionPoint-from_clause passes c.args.items.now c.partition_point.result c.partition_point.ensures.partitioned parted (λ a r f k. search rules)))
