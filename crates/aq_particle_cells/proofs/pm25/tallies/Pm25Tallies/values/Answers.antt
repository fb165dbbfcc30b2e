use Rattle.std.proofs.Common.{◌∙◌, ap}
use Rattle.aq_particle_cells.specs.Pm25.DayValues.{AreValuesOf}
use Rattle.aq_particle_cells.specs.Days.SiteTimes.{site_time}
use Rattle.aq_particle_cells.proofs.DaysLemmas.BagLemmas.{bag-here}
use Rattle.aq_particle_cells.proofs.pm25.tallies.Pm25Tallies.values.Goals as goal

pub returns : goal.returns
returns c bag has =
    c.answer.ensures bag (bag-here AreValuesOf c.args.site c.args.quarter c.new.result (c.new.ensures ∙ ap (site_time c.args.site) c.number.ensures.value) bag c.args.self.now.values has)
