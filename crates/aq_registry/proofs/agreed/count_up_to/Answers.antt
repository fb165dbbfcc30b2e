use Rattle.std.proofs.Common.{rules, ◌≡◌, true, false}
use Rattle.std.specs.List.Sorted.{IsPartitionPoint}
use Rattle.std.proofs.lemmas.List.Sorted.{IsPartitionPoint-from_clause}
use Rattle.aq_registry.proofs.AgreedLemmas.{is_up_to, partitioned, point-front, point-back}
use Rattle.aq_registry.proofs.agreed.count_up_to.Goals as goal

pub point : (c : goal.After-partition_point) → IsPartitionPoint (λ entry. is_up_to c.args.at.now entry ≡ true) (λ entry. is_up_to c.args.at.now entry ≡ false) c.args.entries.now c.partition_point.result
point c =
    IsPartitionPoint-from_clause (is_up_to c.args.at.now) c.args.entries.now c.partition_point.result c.partition_point.ensures.partitioned
    (partitioned c.args.at.now c.args.entries.now c.requires) (λ a r f k. search rules)

pub returns-clause-front : goal.returns-clause-front
returns-clause-front c = point-front c.args.at.now c.args.entries.now c.partition_point.result c.partition_point.ensures.bound (point c)

pub returns-clause-back : goal.returns-clause-back
returns-clause-back c = point-back c.args.at.now c.args.entries.now c.partition_point.result (point c)
