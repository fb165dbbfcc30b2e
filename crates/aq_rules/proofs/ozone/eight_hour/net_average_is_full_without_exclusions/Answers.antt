use Rattle.aq_rules.specs.Ozone.Unexcluded.{row-unexcluded}
use Rattle.aq_rules.proofs.ozone.eight_hour.net_average_is_full_without_exclusions.Goals as goal

pub returns : goal.returns
returns c = row-unexcluded
