use Rattle.aq_rules.proofs.OfficeVerdicts.{annual-kept, daily-kept}
use Rattle.aq_rules.proofs.kept.summaries.office_verdicts_read_what_is_kept.Goals as goal

pub returns-clause-annual : goal.returns-clause-annual
returns-clause-annual c = annual-kept

pub returns-clause-daily : goal.returns-clause-daily
returns-clause-daily c = daily-kept
