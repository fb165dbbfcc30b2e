use Rattle.std.proofs.Common.{◌≡◌, ◌++◌, drop}
use Rattle.std.specs.List.{filter_map}
use Rattle.aq_staging.specs.Counts.{counted_in}
use Rattle.aq_staging.proofs.reply.add_counts.Given as goal

abbrev pub invariant-loop-rule : goal.invariant-loop-rule
invariant-loop-rule l = l.rest ++ filter_map (counted_in l.counts) (drop l.rule-index l.rules) ≡ l.fn.rest ++ filter_map (counted_in l.counts) l.rules
