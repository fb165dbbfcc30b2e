use Rattle.aq_particle_cells.proofs.Pm25Lemmas.Pm25Exchange.{none-tallied}
use Rattle.aq_particle_cells.proofs.pm25.cells.Pm25Cells.new.Goals as goal
use Rattle.aq_particle_cells.proofs.DaysLemmas.Replaced.{no-cells, no-samples}

pub invariant_of-result : goal.invariant_of-result
invariant_of-result c = none-tallied c.new.result.days.entries c.new.ensures c.new-2.result c.new-2.ensures.values c.new-2.ensures.samples c.new-2.ensures.greatest

pub returns-clause-cells : goal.returns-clause-cells
returns-clause-cells c = no-cells c.new.result.days.entries c.new.ensures

pub returns-clause-samples : goal.returns-clause-samples
returns-clause-samples c = no-samples c.new.result.days.entries c.new.ensures
