use Rattle.std.proofs.Common.{◌≡◌, ◌+◌, length}
use Rattle.aq_registry.proofs.records.count.Given as goal

-- what is counted and what is left are all
abbrev pub invariant-loop : goal.invariant-loop
invariant-loop l = l.count + length l.iterator' ≡ length l.fn.part
