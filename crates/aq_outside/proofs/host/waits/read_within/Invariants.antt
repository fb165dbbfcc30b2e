use Rattle.std.specs.Io.KnownBytes.{Keeps}
use Rattle.aq_outside.proofs.host.waits.read_within.Given as goal

-- a read that gave nothing took nothing
abbrev pub invariant-loop : goal.invariant-loop
invariant-loop g l = Keeps (g.S.Read.remaining l.fn.stream) (g.S.Read.remaining l.stream)
