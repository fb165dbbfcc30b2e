use Rattle.aq_rules.proofs.Levels.{met-below, not_met-above, not_met-from}
use Rattle.aq_rules.proofs.standards.verdicts_follow_the_level.Goals as goal

pub returns : goal.returns
returns c = record { met = λ standard office site year h. met-below office site year standard h; not_met = λ standard office site year other h. not_met-above office site year standard other h; daily_above = not_met-from }
