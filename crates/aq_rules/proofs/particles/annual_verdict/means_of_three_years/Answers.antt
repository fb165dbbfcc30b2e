use Rattle.std.proofs.Common.{refl}
use Rattle.aq_rules.proofs.particles.annual_verdict.means_of_three_years.Goals as goal

pub returns : goal.returns
returns c = record { above = refl; at_level = refl; passes = refl; too_few = refl; minimum_test_needs_thirty_days_passes = refl; minimum_test_needs_thirty_days_too_few = refl; empty_quarter_leaves_no_value = refl }
