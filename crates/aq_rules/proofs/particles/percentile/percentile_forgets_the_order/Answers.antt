use Rattle.aq_rules.proofs.Percentiles.{percentile-any_order}
use Rattle.aq_rules.proofs.particles.percentile.percentile_forgets_the_order.Goals as goal

pub returns : goal.returns
returns c = percentile-any_order
