use Rattle.std.proofs.Common.{◌≡◌, ◌++◌, ℕ, map, filter}
use Rattle.std.specs.List.{range_with_len}
use Rattle.aq_listed.specs.FlagWords.{flag_by, is_carried}
use Rattle.aq_listed.proofs.flag_list.add_day.Given as goal

abbrev pub invariant-loop-place : goal.invariant-loop-place
invariant-loop-place l = l.rows ≡ l.fn.rows ++ filter is_carried (map (λ (s : ℕ). flag_by l.marks l.pollutant l.day (record { first = 82; second = s })) (range_with_len 65 l.place))
