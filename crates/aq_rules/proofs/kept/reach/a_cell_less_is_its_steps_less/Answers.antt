use Rattle.aq_rules.proofs.CellsOnce.{weight-settled}
use Rattle.aq_rules.proofs.kept.reach.a_cell_less_is_its_steps_less.Goals as goal

pub returns : goal.returns
returns c steps cell cells left there less = weight-settled steps cell cells left there less
