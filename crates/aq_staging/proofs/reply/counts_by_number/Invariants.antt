use Rattle.std.proofs.Common.{◌≡◌, length, take}
use Rattle.aq_staging.specs.Counts.{CountsByNumber}
use Rattle.aq_staging.proofs.reply.counts_by_number.Given as goal

abbrev pub invariant-loop-line : goal.invariant-loop-line
invariant-loop-line l = record {
  numbers : length l.counts ≡ 256;
  counted : CountsByNumber (take l.line-index l.refused) l.counts;
}
