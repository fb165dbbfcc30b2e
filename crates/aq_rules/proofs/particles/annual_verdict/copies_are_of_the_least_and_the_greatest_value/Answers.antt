use Rattle.aq_rules.proofs.KeptSums.{minimum-of_all, maximum-of_all}
use Rattle.aq_rules.proofs.particles.annual_verdict.copies_are_of_the_least_and_the_greatest_value.Goals as goal

pub returns-clause-minimum : goal.returns-clause-minimum
returns-clause-minimum c = minimum-of_all

pub returns-clause-maximum : goal.returns-clause-maximum
returns-clause-maximum c = maximum-of_all
