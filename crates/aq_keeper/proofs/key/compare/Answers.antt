use Rattle.std.proofs.Common.{◌∙◌}
use Rattle.aq_keeper.proofs.KeyOrder.{derived-order}
use Rattle.aq_keeper.proofs.key.compare.Goals as goal

pub returns : goal.returns
returns c = c.cmp.ensures ∙ derived-order c.args.a c.args.b
