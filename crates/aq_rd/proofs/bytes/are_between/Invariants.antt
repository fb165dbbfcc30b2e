use Rattle.std.proofs.Common.{◌≡◌, take}
use Rattle.aq_rd.specs.FieldPlaces.{are_between}
use Rattle.aq_rd.proofs.bytes.are_between.Given as goal

abbrev pub invariant-loop-byte : goal.invariant-loop-byte
invariant-loop-byte l = l.are_between ≡ are_between l.least (take l.byte-index l.line)
