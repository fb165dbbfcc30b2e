use Rattle.aq_ozone_cells.proofs.CellFacts.{average-none, cells-none, held-none, hour-none}
use Rattle.aq_ozone_cells.proofs.ozone_cells.OzoneCells.new.Goals as goal

pub invariant_of-result : goal.invariant_of-result
invariant_of-result c = cells-none c.new.result.days.entries c.new.ensures c.new-2.result c.new-2.ensures

pub returns-clause-hours : goal.returns-clause-hours
returns-clause-hours c = hour-none c.new.result.days.entries c.new.ensures

pub returns-clause-averages : goal.returns-clause-averages
returns-clause-averages c = average-none c.new.result.days.entries c.new.ensures

pub returns-clause-days : goal.returns-clause-days
returns-clause-days c = held-none c.new.result.days.entries c.new.ensures
