use Rattle.aq_rules.proofs.OzoneFacts.{ozone_year-keeps}
use Rattle.aq_rules.proofs.Quarters.{year-holds}
use Rattle.aq_rules.proofs.kept.summaries.ozone_years_keep_their_facts.Goals as goal

pub returns : goal.returns
returns c office site year valid = ozone_year-keeps office site year valid (year-holds year)
