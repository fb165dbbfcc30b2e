use Rattle.aq_particle_cells.proofs.Pm10Lemmas.Pm10Exchange.{none-tallied}
use Rattle.aq_particle_cells.proofs.pm10.cells.Pm10Cells.new.Goals as goal
use Rattle.aq_particle_cells.proofs.DaysLemmas.Replaced.{no-cells, no-samples}

pub invariant_of-result : goal.invariant_of-result
invariant_of-result c =
    none-tallied c.new.result.days.entries c.new.ensures c.new-2.result.strata.entries c.new-2.ensures c.new-3.result c.new-3.ensures.samples c.new-3.ensures.strata

pub returns-clause-cells : goal.returns-clause-cells
returns-clause-cells c = no-cells c.new.result.days.entries c.new.ensures

pub returns-clause-samples : goal.returns-clause-samples
returns-clause-samples c = no-samples c.new.result.days.entries c.new.ensures
