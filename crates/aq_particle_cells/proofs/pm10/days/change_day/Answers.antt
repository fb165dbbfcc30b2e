use Rattle.std.proofs.Common.{◌∙◌, refl}
use Rattle.aq_particle_cells.specs.Pm10.Pm10Cells.{scheduled_sample}
use Rattle.aq_particle_cells.proofs.Pm10Lemmas.Pm10Exchange.{scheduled-here}
use Rattle.aq_particle_cells.proofs.Pm10Lemmas.Pm10Steps.{day-already}
use Rattle.aq_particle_cells.proofs.pm10.days.change_day.Goals as goal
use Rattle.aq_particle_cells.proofs.DaysLemmas.Replaced.{cells-after, samples-after}

pub returns-clause-cells : goal.returns-clause-cells
returns-clause-cells g c =
    cells-after c.args.days.now.days.entries c.exchange_day.new.days.days.entries (record { cell = c.args.cell.now; sample = c.sample_of.result }) c.args.site c.args.day
    c.in_ok-exchange_day.ensures.days c.args.cell.now refl

pub returns-clause-samples : goal.returns-clause-samples
returns-clause-samples g c =
    samples-after c.args.days.now.days.entries c.exchange_day.new.days.days.entries (record { cell = c.args.cell.now; sample = c.sample_of.result }) c.args.site c.args.day
    c.in_ok-exchange_day.ensures.days (scheduled_sample c.args.registry.now c.exchange_day.new.days.days.entries c.args.site c.args.day)
    (c.sample_of.ensures ∙ scheduled-here c.args.registry.now c.args.days.now.days.entries c.exchange_day.new.days.days.entries c.args.site c.args.day c.args.cell.now (returns-clause-cells g c))

pub returns-clause-no_step : goal.returns-clause-no_step
returns-clause-no_step g c value counts =
    c.in_ok-exchange_day.ensures.no_step (day-already c.args.registry.now c.args.days.now.days.entries c.args.site c.args.day c.args.cell.now c.sample_of.result c.sample_of.ensures value counts)

pub returns-in_err-exchange_day-clause-no_step : goal.returns-in_err-exchange_day-clause-no_step
returns-in_err-exchange_day-clause-no_step g c value counts =
    c.in_err-exchange_day.ensures.no_step (day-already c.args.registry.now c.args.days.now.days.entries c.args.site c.args.day c.args.cell.now c.sample_of.result c.sample_of.ensures value counts)
