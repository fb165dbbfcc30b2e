use Rattle.std.proofs.Common.{sym, arith}
use Rattle.aq_shelf.specs.Stretches.{joined}
use Rattle.aq_shelf.proofs.ShelfLemmas.{IsShelf-change, ChangesOnly-put, HasValueInRange-found}
use Rattle.aq_shelf.proofs.shelf.Shelf.update.Goals as goal

pub invariant_of-self-2 : goal.invariant_of-self-2
invariant_of-self-2 c =
    let same =
    IsShelf-change c.args.key c.args.content c.in-Some.before (joined c.self.inside.stretches.entries) (joined c.change.new.stretches.entries)
    (rw c.number.ensures.value at c.number.ensures.range, c.requires) c.self.invariant.1 (sym c.in-Some.ensures.before) c.in-Some.ensures.ok
    in
    (c.change.ensures.stretches, same.0, omega (arith, same.1, c.self.invariant.2))

pub returns-clause-range : goal.returns-clause-range
returns-clause-range c =
    HasValueInRange-found c.args.key c.in-Some.before (joined c.self.inside.stretches.entries) c.self.invariant.1 (sym c.in-Some.ensures.before)

pub returns-clause-keys : goal.returns-clause-keys
returns-clause-keys c = ChangesOnly-put c.args.key c.args.content (joined c.self.inside.stretches.entries) _ _ c.in-Some.ensures.ok c.self.view_is
