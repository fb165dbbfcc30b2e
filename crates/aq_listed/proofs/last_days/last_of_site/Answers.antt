use Rattle.std.proofs.Common.{sym, ◌∙◌}
use Rattle.aq_base.specs.declared.monitor.Pollutant.TheVariants.{Ozone, Pm25, Pm10}
use Rattle.aq_rules.specs.Listed.Monitors.{listed_monitor, listed_monitors, monitors_of}
use Rattle.aq_series.specs.OfficeView.{office_of}
use Rattle.aq_listed.specs.LastDay.{last_day_at, later}
use Rattle.aq_listed.proofs.LatestDays.{latest_of_three}
use Rattle.aq_listed.proofs.last_days.last_of_site.Goals as goal

pub returns-clause-day : goal.returns-clause-day
unfolding last_day_at listed_monitors
returns-clause-day g c =
    let office = office_of c.args.registry.now c.args.shelf.now in
    let of = monitors_of office c.args.site in
    c.later-2.ensures
    ∙ (λ i. later (c.last_day_at-ozone.ensures.day i) ((c.later.ensures ∙ (λ j. later (c.last_day_at-pm25.ensures.day j) (c.last_day_at-pm10.ensures.day j))) i))
    ∙ sym (latest_of_three (listed_monitor office) (of Ozone) (of Pm25) (of Pm10))
