use Rattle.std.proofs.Common.{length}
use Rattle.aq_desk.proofs.messages.+write_digest.Given as goal

abbrev pub decreases-write_digest : goal.decreases-write_digest
decreases-write_digest g l = length l.bytes.now
