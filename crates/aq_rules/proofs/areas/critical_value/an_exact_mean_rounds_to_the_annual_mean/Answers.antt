use Rattle.aq_rules.proofs.Critical.{rounded-exact}
use Rattle.aq_rules.proofs.areas.critical_value.an_exact_mean_rounds_to_the_annual_mean.Goals as goal

pub returns : goal.returns
returns c = rounded-exact
