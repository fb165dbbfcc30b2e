use Rattle.std.proofs.Common.{refl}
use Rattle.aq_rules.specs.Lists.{ranked}
use Rattle.aq_ozone.proofs.ozone_year.YearTally.new.Goals as goal

pub returns : goal.returns
unfolding ranked
returns c = record { season_days = refl; season_valid = refl; ranked_maxima = refl; ozone = tt; top = c.new.ensures }
