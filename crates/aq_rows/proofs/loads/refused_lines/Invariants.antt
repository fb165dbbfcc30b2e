use Rattle.std.proofs.Common.{◌≡◌, ◌+◌, length, sum_by, take}
use Rattle.aq_rows.specs.Loaded.{count_of}
use Rattle.aq_rows.proofs.loads.refused_lines.Given as goal

abbrev pub invariant-loop-counted : goal.invariant-loop-counted
invariant-loop-counted l = l.total ≡ length l.listed + sum_by count_of (take l.counted-index l.rest)
