use Rattle.std.proofs.Common.{ℕ, List, refl, sym, subst, arith}
use Rattle.std.proofs.Common.{◌≡◌, length}
use Rattle.std.specs.declared.cmp.Reverse.{Reverse}
use Rattle.aq_base.specs.declared.observation.Observation.{Observation}
use Rattle.aq_shelf.specs.declared.stretch.Stretch.{Stretch}
use Rattle.aq_shelf.specs.Standing.{IsShelf}
use Rattle.aq_shelf.specs.Stretches.{joined, AreStretches}
use Rattle.aq_shelf.proofs.shelf.Shelf.new.Goals as goal

pub invariant_of-result : goal.invariant_of-result
invariant_of-result c =
    subst (λ (ss : List (Reverse Stretch × List (ℕ × Observation))). AreStretches ss × IsShelf (joined ss) × (0 ≡ length (joined ss))) (sym c.new.ensures.empty)
    (record { apart = tt; rising = refl }, record { rising = refl; few = omega arith; standing = tt }, refl)
