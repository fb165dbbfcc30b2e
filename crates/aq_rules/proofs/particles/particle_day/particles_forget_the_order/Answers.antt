use Rattle.aq_rules.proofs.DaysInOrder.{site_day-any_order, pm25_year-any_order, pm10_year-any_order}
use Rattle.aq_rules.proofs.particles.particle_day.particles_forget_the_order.Goals as goal

pub returns : goal.returns
returns c = record { day = site_day-any_order; fine = pm25_year-any_order; coarse = pm10_year-any_order }
