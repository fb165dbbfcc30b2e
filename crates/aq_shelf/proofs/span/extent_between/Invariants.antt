use Rattle.std.proofs.Common.{◌≡◌, ◌+◌, length}
use Rattle.std.specs.Option.{option_or}
use Rattle.aq_shelf.specs.Extents.{first_hour, last_hour}
use Rattle.aq_shelf.specs.Stretches.{hours_between}
use Rattle.aq_shelf.proofs.span.extent_between.Given as goal

-- those that are left and those seen so far are all
abbrev pub invariant-loop-hours : goal.invariant-loop-hours
invariant-loop-hours l = record {
  counted : length (hours_between l.from l.end l.hours-iterator) + l.seen.count ≡ length (hours_between l.fn.from l.fn.end l.fn.stretches);
  earliest : option_or (first_hour (hours_between l.from l.end l.hours-iterator)) l.seen.first ≡ first_hour (hours_between l.fn.from l.fn.end l.fn.stretches);
  latest : option_or l.seen.last (last_hour (hours_between l.from l.end l.hours-iterator)) ≡ last_hour (hours_between l.fn.from l.fn.end l.fn.stretches);
}
