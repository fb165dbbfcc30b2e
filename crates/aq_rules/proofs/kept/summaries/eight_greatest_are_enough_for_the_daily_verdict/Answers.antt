use Rattle.aq_rules.proofs.KeptDaily.{kept_daily-same}
use Rattle.aq_rules.proofs.kept.summaries.eight_greatest_are_enough_for_the_daily_verdict.Goals as goal

pub returns : goal.returns
returns c = kept_daily-same
