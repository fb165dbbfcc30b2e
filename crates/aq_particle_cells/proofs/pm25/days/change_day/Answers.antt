use Rattle.std.proofs.Common.{◌∙◌, sym}
use Rattle.aq_particle_cells.proofs.Pm25Lemmas.Pm25Samples.{counted-one, counted-two}
use Rattle.aq_particle_cells.proofs.pm25.days.change_day.Goals as goal
use Rattle.aq_particle_cells.proofs.DaysLemmas.Replaced.{particles-put, particles-same}

pub count_day-requires-clause-particles : goal.count_day-requires-clause-particles
count_day-requires-clause-particles g c =
    particles-put c.args.days.now.days.entries c.put_cell.new.days.days.entries c.args.site c.args.day c.args.cell.now c.in_ok-put_cell.ensures.cells c.requires.range c.requires.particles

pub count_day-requires-2-clause-particles : goal.count_day-requires-2-clause-particles
count_day-requires-2-clause-particles g c =
    particles-same c.put_cell.new.days.days.entries c.count_day.new.days.days.entries c.in_ok-count_day.ensures.cells
    (particles-put c.args.days.now.days.entries c.put_cell.new.days.days.entries c.args.site c.args.day c.args.cell.now c.in_ok-put_cell.ensures.cells c.requires.range c.requires.particles)

pub returns-in_default-clause-cells : goal.returns-in_default-clause-cells
returns-in_default-clause-cells g c other number = c.in_ok-count_day.ensures.cells other number ∙ c.in_ok-put_cell.ensures.cells other number

pub returns-in_default-clause-samples : goal.returns-in_default-clause-samples
returns-in_default-clause-samples g c =
    counted-one c.args.registry.now c.args.site c.args.day c.args.days.now.days.entries c.put_cell.new.days.days.entries c.count_day.new.days.days.entries c.count_day.new.days.days.entries
    c.in_ok-put_cell.ensures.samples c.in_ok-count_day.ensures.cells c.in_ok-count_day.ensures.samples (sym c.missed_of.ensures ∙ c.in_default.is)

pub returns-clause-cells : goal.returns-clause-cells
returns-clause-cells g c other number =
    c.in_ok-count_day-2.ensures.cells other number ∙ c.in_ok-count_day.ensures.cells other number ∙ c.in_ok-put_cell.ensures.cells other number

pub returns-clause-samples : goal.returns-clause-samples
returns-clause-samples g c =
    counted-two c.args.registry.now c.args.site c.args.day c.args.days.now.days.entries c.put_cell.new.days.days.entries c.count_day.new.days.days.entries c.count_day-2.new.days.days.entries
    c.in_ok-put_cell.ensures.samples c.in_ok-count_day.ensures.cells c.in_ok-count_day.ensures.samples c.in-Some.missed (sym c.missed_of.ensures ∙ c.in-Some.is)
    c.in_ok-count_day-2.ensures.cells c.in_ok-count_day-2.ensures.samples
