use Rattle.std.proofs.Common.{◌≡◌, ℕ, ◌+◌, ◌<◌, None, length, get_or}
use Rattle.std.specs.Prelude.{nat_lt}
use Rattle.aq_design.specs.Combined.Pairs.{chosen}
use Rattle.aq_design.proofs.combined.either.of_either.Given as goal

abbrev pub invariant-loop-i : goal.invariant-loop-i
invariant-loop-i g l = record {
  many : length l.cells ≡ g.row.N;
  each : (k : ℕ) → k < l.i → get_or l.cells k None ≡ chosen (nat_lt (l.first + k) l.from) (get_or l.site k None) (get_or l.joined k None);
}
