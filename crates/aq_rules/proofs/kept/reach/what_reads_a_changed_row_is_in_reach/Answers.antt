use Rattle.aq_rules.proofs.UnreachedRows.{reach-is}
use Rattle.aq_rules.proofs.kept.reach.what_reads_a_changed_row_is_in_reach.Goals as goal

pub returns : goal.returns
returns c old new cell = reach-is old new cell
