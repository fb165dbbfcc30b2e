use Rattle.std.proofs.Common.{◌≡◌, ◌+◌, length}
use Rattle.aq_shelf.specs.Stretches.{hours_between}
use Rattle.aq_shelf.proofs.shelf.count_between.Given as goal

-- those counted so far and those that are left are all
abbrev pub invariant-loop-hours : goal.invariant-loop-hours
invariant-loop-hours l =
    l.count + length (hours_between l.from l.end l.hours-iterator) ≡ length (hours_between l.fn.from l.fn.end l.fn.stretches)
