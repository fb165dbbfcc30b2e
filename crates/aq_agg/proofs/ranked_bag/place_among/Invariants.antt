use Rattle.std.proofs.Common.{◌≡◌, ℕ, ◌+◌, ◌≤◌, ◌-◌, length, drop, List}
use Rattle.std.specs.Prelude.{ℤ}
use Rattle.aq_agg.specs.Ranks.{place_of}
use Rattle.aq_agg.proofs.ranked_bag.place_among.Given as goal

pub record Walked (place : ℕ) (values : List ℤ) (value : ℤ) : Type 0 where
  pub within : place ≤ length values
  pub rest : place + place_of value (drop place values) ≡ place_of value values

abbrev pub invariant-loop-place : goal.invariant-loop-place
invariant-loop-place l = Walked l.place l.values l.value

abbrev pub decreases-loop-place : goal.decreases-loop-place
decreases-loop-place l = length l.values - l.place
