use Rattle.aq_keeper.proofs.RisingLemmas.{rise-keys}
use Rattle.aq_keeper.proofs.tables.Tables.of.Goals as goal

pub invariant_of-result : goal.invariant_of-result
invariant_of-result c = rise-keys _ c.requires
