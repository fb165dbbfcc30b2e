use Rattle.std.proofs.Common.{refl}
use Rattle.aq_rules.proofs.particles.annual_verdict.levels_of_2012_and_2024.Goals as goal

pub returns : goal.returns
returns c = record { above_9_0 = refl; within_12_0 = refl; at_9_0 = refl; below_12_0 = refl; minimum_test = refl; maximum_test = refl }
