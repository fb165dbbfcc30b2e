use Rattle.aq_rules.proofs.Pm10Facts.{pm10_quarter-keeps, pm10_year-keeps}
use Rattle.aq_rules.proofs.kept.summaries.pm10_quarters_keep_their_facts.Goals as goal

pub returns-clause-quarter : goal.returns-clause-quarter
returns-clause-quarter c = pm10_quarter-keeps

pub returns-clause-year : goal.returns-clause-year
returns-clause-year c = pm10_year-keeps
