use Rattle.std.proofs.Common.{◌∙◌, ap, sym}
use Rattle.aq_base.specs.Calendar.{hour_number, quarter_of}
use Rattle.aq_base.specs.declared.office.OfficeKey.{OfficeKey}
use Rattle.aq_dirty.specs.ParticleReach.{reach_of_hours, reach_of_key, reach_of_quarters}
use Rattle.aq_dirty.proofs.particle_reach.reach_of_key.Goals as goal

pub returns-in-Primary-clause-value : goal.returns-in-Primary-clause-value
returns-in-Primary-clause-value c =
    let last = c.hour_of-in-Primary.ensures ∙ ap (λ d. hour_number d 23) c.last_day_designated-last.ensures in
    c.reach_of_hours-in-Primary.ensures.value
    ∙ (λ i. reach_of_hours c.in-Primary.site c.in-Primary.pollutant (c.hour_of.ensures i) (last i))
    ∙ ap (λ (k : OfficeKey). reach_of_key c.args.registry.now k c.args.is_new) (sym c.in-Primary.is)

pub returns-in-Schedule-clause-value : goal.returns-in-Schedule-clause-value
returns-in-Schedule-clause-value c =
    let last = c.quarter_of-in-Schedule.ensures ∙ ap (λ d. quarter_of d) c.last_day_scheduled-last.ensures in
    c.reach_of_quarters.ensures.value
    ∙ (λ i. reach_of_quarters c.in-Schedule.site c.in-Schedule.pollutant (c.quarter_of.ensures i) (last i))
    ∙ ap (λ (k : OfficeKey). reach_of_key c.args.registry.now k c.args.is_new) (sym c.in-Schedule.is)
