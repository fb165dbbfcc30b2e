use Rattle.aq_rd.proofs.ReadingOrder.{ranged-line}
use Rattle.aq_rd.proofs.read.read_rd.Goals as goal

pub returns-clause-range : goal.returns-clause-range
returns-clause-range c = ranged-line _ c.read_line.ensures.spelled
