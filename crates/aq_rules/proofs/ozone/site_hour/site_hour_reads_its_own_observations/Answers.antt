use Rattle.aq_rules.proofs.OtherHours.{site_hour-own}
use Rattle.aq_rules.proofs.ozone.site_hour.site_hour_reads_its_own_observations.Goals as goal

pub returns : goal.returns
returns c = site_hour-own
