use Rattle.std.proofs.Common.{arith}
use Rattle.aq_base.specs.declared.monitor.Pollutant.TheVariants.{Pm25, Pm10}
use Rattle.aq_series.proofs.SiteDay.{most-steps}
use Rattle.aq_series.proofs.days.site_day.Goals as goal

pub returns-in-Pm25-clause-most_steps : goal.returns-in-Pm25-clause-most_steps
returns-in-Pm25-clause-most_steps g c = omega (arith, c.pm25_day.ensures.steps, most-steps c.args.registry.now c.args.site Pm25 c.next_poc.ensures.valid)

pub returns-in-Pm10-clause-most_steps : goal.returns-in-Pm10-clause-most_steps
returns-in-Pm10-clause-most_steps g c = omega (arith, c.pm10_day.ensures.steps, most-steps c.args.registry.now c.args.site Pm10 c.next_poc.ensures.valid)
