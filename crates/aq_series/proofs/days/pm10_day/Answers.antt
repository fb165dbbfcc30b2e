use Rattle.std.proofs.Common.{◌∙◌, arith}
use Rattle.aq_base.specs.declared.monitor.Pollutant.TheVariants.{Pm10}
use Rattle.aq_series.specs.OfficeView.{office_of}
use Rattle.aq_series.proofs.SiteDay.{coarse-is, of-one}
use Rattle.aq_series.proofs.days.pm10_day.Goals as goal

pub returns-clause-value : goal.returns-clause-value
returns-clause-value g c =
    c.day_of_poc.ensures.value
    ∙ coarse-is (office_of c.args.registry.now c.args.shelf.now) c.args.site.now c.args.day c.counting_poc-poc.result c.counting_poc-poc.ensures

pub returns-clause-steps : goal.returns-clause-steps
returns-clause-steps g c = omega (arith, c.day_of_poc.ensures.steps, of-one c.args.registry.now c.args.site.now Pm10 c.counting_poc-poc.result c.requires)
