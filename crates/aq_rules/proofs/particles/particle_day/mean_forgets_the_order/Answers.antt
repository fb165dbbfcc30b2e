use Rattle.aq_rules.proofs.DaysInOrder.{mean-any_order}
use Rattle.aq_rules.proofs.particles.particle_day.mean_forgets_the_order.Goals as goal

pub returns : goal.returns
returns c = mean-any_order
