use Rattle.std.proofs.Common.{sym, arith}
use Rattle.aq_shelf.specs.Stretches.{joined}
use Rattle.aq_shelf.proofs.ShelfLemmas.{IsShelf-less, ChangesOnly-drop, HasValueInRange-found}
use Rattle.aq_shelf.proofs.shelf.Shelf.remove.Goals as goal

pub invariant_of-self-2 : goal.invariant_of-self-2
invariant_of-self-2 c =
    let less = IsShelf-less c.args.key c.in-Some.before (joined c.self.inside.stretches.entries) (joined c.take_out.new.stretches.entries) c.self.invariant.1 (sym c.in-Some.ensures.before) c.in-Some.ensures.ok in
    (c.take_out.ensures.stretches, less.0, omega (arith, less.1, c.self.invariant.2))

pub returns-clause-range : goal.returns-clause-range
returns-clause-range c =
    HasValueInRange-found c.args.key c.in-Some.before (joined c.self.inside.stretches.entries) c.self.invariant.1 (sym c.in-Some.ensures.before)

pub returns-clause-keys : goal.returns-clause-keys
returns-clause-keys c = ChangesOnly-drop c.args.key (joined c.self.inside.stretches.entries) _ _ c.in-Some.ensures.ok c.self.view_is
