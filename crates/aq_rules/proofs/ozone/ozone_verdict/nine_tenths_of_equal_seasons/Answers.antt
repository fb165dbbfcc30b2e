use Rattle.aq_rules.proofs.Thirds.{average_kept-equal_seasons}
use Rattle.aq_rules.proofs.ozone.ozone_verdict.nine_tenths_of_equal_seasons.Goals as goal

pub returns : goal.returns
returns c = average_kept-equal_seasons
