use Rattle.std.proofs.Common.{refl}
use Rattle.aq_rules.specs.DesignValues.{design_value}
use Rattle.aq_rules.proofs.standards.annual_standards_have_their_own_levels.Goals as goal

pub returns : goal.returns
unfolding design_value
returns c = record { primary = λ office site year. refl; secondary = λ office site year. refl; primary_of_2024 = λ office site year. refl }
