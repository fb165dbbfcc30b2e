use Rattle.aq_rules.proofs.Ranges.{window-same}
use Rattle.aq_rules.proofs.ozone.eight_hour.average_reads_its_eight_hours.Goals as goal

pub returns : goal.returns
returns c = window-same
