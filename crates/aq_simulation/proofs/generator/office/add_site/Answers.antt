use Rattle.aq_simulation.proofs.GeneratorLemmas.Written.{nine-written}
use Rattle.aq_simulation.proofs.generator.office.add_site.Goals as goal

pub returns : goal.returns
returns c =
    nine-written _ _ _ _ _ _ _ _ _ _ c.args.number c.args.years c.year_span-from.result.0 c.site_of-site.result c.site_of-site.ensures c.year_span-from.ensures.first
    c.in_ok-add_monitor.ensures c.in_ok-add_monitor-2.ensures c.in_ok-add_monitor-3.ensures
    c.in_ok-add_primary.ensures c.in_ok-add_primary-2.ensures c.in_ok-add_primary-3.ensures
    c.in_ok-add_schedule.ensures c.in_ok-add_schedule-2.ensures c.in_ok-add_seasons.ensures
