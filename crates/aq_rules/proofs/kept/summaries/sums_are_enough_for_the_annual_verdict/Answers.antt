use Rattle.aq_rules.proofs.KeptSums.{kept_annual-same}
use Rattle.aq_rules.proofs.kept.summaries.sums_are_enough_for_the_annual_verdict.Goals as goal

pub returns : goal.returns
returns c = kept_annual-same
