use Rattle.std.proofs.Common.{◌≡◌, take}
use Rattle.aq_staging.proofs.reply.listed_of.Given as goal

abbrev pub invariant-loop-line : goal.invariant-loop-line
invariant-loop-line l = l.listed ≡ take l.line-index l.refused
