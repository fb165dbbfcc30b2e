use Rattle.std.proofs.Common.{◌≡◌, [], map}
use Rattle.aq_outside.proofs.memory_door.lines_of.Given as goal

abbrev pub invariant-loop-input : goal.invariant-loop-input
invariant-loop-input l = l.lines.items ≡ map (λ bytes. record { left = bytes.items; written = []; room = l.room; reads = 0; writes = 0 }) l.yielded
