use Rattle.aq_registry.proofs.ReachLemmas.{last-of}
use Rattle.aq_registry.proofs.agreed.last_of.Goals as goal

pub returns-else-count-eq0 : goal.returns-else-count-eq0
returns-else-count-eq0 c = last-of c.args.entries.now c.args.count _ c.if-count-eq0.false c.requires
