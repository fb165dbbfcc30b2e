use Rattle.std.proofs.Common.{sym, subst}
use Rattle.aq_journal.specs.Places.{ArePlaced}
use Rattle.aq_journal.proofs.Placed.{entries_are}
use Rattle.aq_journal.proofs.tables.Tables.new.Goals as goal

pub invariant_of-result : goal.invariant_of-result
invariant_of-result c = entries_are c.new.result.entries (subst ArePlaced (sym c.new.ensures.empty) tt) c.new.ensures.ordered
