use Rattle.std.proofs.Common.{◌∙◌, ◌≤◌, ℕ, sym, subst, List, length}
use Rattle.std.specs.List.{AllByRecursion}
use Rattle.aq_base.specs.Values.{HasValueInRange}
use Rattle.aq_base.specs.declared.observation.Observation.{Observation}
use Rattle.aq_base.specs.declared.limits.TheConstants.{MOST_OBSERVATIONS}
use Rattle.aq_shelf.specs.Stretches.{joined}
use Rattle.aq_shelf.proofs.ShelfLemmas.{all-observations_in, few-observations_in}
use Rattle.aq_shelf.proofs.shelf.Shelf.span.Goals as goal

pub count_between-count-requires : goal.count_between-count-requires
count_between-count-requires g c =
    subst (λ (l : List (ℕ × Observation)). length l ≤ MOST_OBSERVATIONS) (sym c.stretches_from.ensures)
    (few-observations_in c.args.monitor c.number-start.result _ (joined c.self.inside.stretches.entries) c.self.invariant.1)

pub returns-clause-ranges : goal.returns-clause-ranges
returns-clause-ranges g c =
    subst (λ (l : List (ℕ × Observation)). AllByRecursion (λ (item : ℕ × Observation). HasValueInRange c.args.monitor.pollutant item.1) l) (sym (c.new.ensures ∙ c.stretches_from-2.ensures))
    (all-observations_in c.args.monitor c.number-start.result _ (joined c.self.inside.stretches.entries) c.self.invariant.1.standing)
