use Rattle.std.proofs.Common.{refl}
use Rattle.aq_rules.specs.Lists.{ranked}
use Rattle.aq_rules.proofs.particles.daily_verdict.percentiles_of_three_years.Goals as goal

pub returns : goal.returns
unfolding ranked
returns c = record { mean_of_percentiles_is_rounded_once = refl; passes = refl; too_few = refl; at = refl; above = refl; copies_count_as_samples = refl }
