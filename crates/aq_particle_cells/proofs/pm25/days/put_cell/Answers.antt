use Rattle.std.proofs.Common.{◌∙◌, refl, sym}
use Rattle.aq_particle_cells.specs.Days.KeptDays.{sample_at}
use Rattle.aq_particle_cells.proofs.DaysLemmas.TimeLemmas.{put-same}
use Rattle.aq_particle_cells.proofs.pm25.days.put_cell.Goals as goal
use Rattle.aq_particle_cells.proofs.DaysLemmas.Replaced.{cells-after, samples-after}

pub returns-clause-cells : goal.returns-clause-cells
returns-clause-cells g c =
    cells-after c.args.days.now.days.entries c.exchange_day.new.days.days.entries (record { cell = c.args.new.now; sample = c.sample.result }) c.args.site c.args.day
    c.in_ok-exchange_day.ensures.days c.args.new.now refl

pub returns-clause-samples : goal.returns-clause-samples
returns-clause-samples g c other number =
    samples-after c.args.days.now.days.entries c.exchange_day.new.days.days.entries (record { cell = c.args.new.now; sample = c.sample.result }) c.args.site c.args.day
    c.in_ok-exchange_day.ensures.days c.sample.result refl other number
    ∙ sym (put-same (sample_at c.args.days.now.days.entries) c.args.site c.args.day c.sample.result c.sample.ensures other number)
