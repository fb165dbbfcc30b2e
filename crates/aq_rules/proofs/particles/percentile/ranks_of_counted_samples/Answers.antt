use Rattle.std.proofs.Common.{refl}
use Rattle.aq_rules.specs.Lists.{ranked}
use Rattle.aq_rules.proofs.particles.percentile.ranks_of_counted_samples.Goals as goal

pub returns : goal.returns
unfolding ranked
returns c = record { first = refl; second = refl; unscheduled = refl; ranks_step_at_fifties = refl }
