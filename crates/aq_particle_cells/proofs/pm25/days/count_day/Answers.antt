use Rattle.std.proofs.Common.{◌∙◌, refl, sym, subst}
use Rattle.std.specs.Prelude.{Option, IfSome}
use Rattle.aq_rules.specs.Ozone.SiteHour.{Cell}
use Rattle.aq_series.specs.DayCells.{IsParticle}
use Rattle.aq_particle_cells.specs.Days.KeptDays.{cell_at}
use Rattle.aq_particle_cells.specs.Pm25.Pm25Cells.{sample_from}
use Rattle.aq_particle_cells.proofs.DaysLemmas.TimeLemmas.{put-same}
use Rattle.aq_particle_cells.proofs.Pm25Lemmas.Pm25Steps.{day-already}
use Rattle.aq_particle_cells.proofs.pm25.days.count_day.Goals as goal
use Rattle.aq_particle_cells.proofs.DaysLemmas.Replaced.{cells-after, samples-after}

pub exchange_day-requires-clause-range : goal.exchange_day-requires-clause-range
exchange_day-requires-clause-range g c =
    subst (λ (o : Option Cell). IfSome o (λ (cell : Cell). IsParticle cell.value)) (sym c.cell.ensures) (c.requires.particles c.args.site c.args.day)

pub returns-clause-cells : goal.returns-clause-cells
returns-clause-cells g c other number =
    cells-after c.args.days.now.days.entries c.exchange_day.new.days.days.entries (record { cell = c.cell.result; sample = c.sample_from.result }) c.args.site c.args.day
    c.in_ok-exchange_day.ensures.days c.cell.result refl other number
    ∙ sym (put-same (cell_at c.args.days.now.days.entries) c.args.site c.args.day c.cell.result c.cell.ensures other number)

pub returns-clause-samples : goal.returns-clause-samples
returns-clause-samples g c =
    samples-after c.args.days.now.days.entries c.exchange_day.new.days.days.entries (record { cell = c.cell.result; sample = c.sample_from.result }) c.args.site c.args.day
    c.in_ok-exchange_day.ensures.days (sample_from c.args.registry.now c.args.days.now.days.entries c.args.site c.args.day) c.sample_from.ensures

pub returns-clause-no_step : goal.returns-clause-no_step
returns-clause-no_step g c counts =
    c.in_ok-exchange_day.ensures.no_step (day-already c.args.days.now.days.entries c.args.site c.args.day c.cell.result c.sample_from.result c.cell.ensures (counts ∙ sym c.sample_from.ensures))

pub returns-in_err-exchange_day-clause-no_step : goal.returns-in_err-exchange_day-clause-no_step
returns-in_err-exchange_day-clause-no_step g c counts =
    c.in_err-exchange_day.ensures.no_step (day-already c.args.days.now.days.entries c.args.site c.args.day c.cell.result c.sample_from.result c.cell.ensures (counts ∙ sym c.sample_from.ensures))
