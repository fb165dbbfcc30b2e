use Rattle.aq_series.specs.OfficeView.{office_of}
use Rattle.aq_particle_cells.proofs.Pm10Lemmas.Pm10Filling.{filling-after, values-stay}
use Rattle.aq_particle_cells.proofs.Pm10Lemmas.Pm10Settled.{value-here}
use Rattle.aq_particle_cells.proofs.pm10.filling.fill_day.Goals as goal

pub returns-clause-each : goal.returns-clause-each
returns-clause-each g c =
    filling-after (office_of c.args.registry.now c.args.shelf.now) c.args.cells.now c.change_day.new.self c.args.site c.args.day c.site_day-new.result
    c.in_ok-change_day.ensures.cells c.in_ok-change_day.ensures.samples c.site_day-new.ensures.value c.requires

pub returns-clause-stay : goal.returns-clause-stay
returns-clause-stay g c =
    values-stay (office_of c.args.registry.now c.args.shelf.now) c.args.cells.now c.change_day.new.self c.args.site c.args.day c.site_day-new.result
    c.in_ok-change_day.ensures.cells c.in_ok-change_day.ensures.samples c.site_day-new.ensures.value

pub returns-clause-filled : goal.returns-clause-filled
returns-clause-filled g c =
    value-here (office_of c.args.registry.now c.args.shelf.now) c.args.cells.now c.change_day.new.self c.args.site c.args.day c.site_day-new.result
    c.in_ok-change_day.ensures.cells c.in_ok-change_day.ensures.samples c.site_day-new.ensures.value
