use Rattle.aq_base.specs.Calendar.{quarter_number}
use Rattle.aq_rules.proofs.Pm25Range.{pm25_quarter-keeps, pm25_year-keeps}
use Rattle.aq_rules.proofs.Quarters.{quarter-holds}
use Rattle.aq_rules.proofs.kept.summaries.pm25_quarters_keep_their_facts.Goals as goal

pub returns-clause-quarter : goal.returns-clause-quarter
returns-clause-quarter c office site quarter valid = pm25_quarter-keeps office site quarter valid (quarter-holds quarter)

pub returns-clause-year : goal.returns-clause-year
returns-clause-year c office site year valid =
    pm25_year-keeps office site year valid (λ part low. quarter-holds (quarter_number year part))
