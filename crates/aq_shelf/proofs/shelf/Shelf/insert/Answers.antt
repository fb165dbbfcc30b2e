use Rattle.std.proofs.Common.{◌≡◌, ◌∙◌, ◌<◌, ◌≤◌, ℕ, ap, refl, subst, nat_eq, false, List, length, arith}
use Rattle.std.proofs.lemmas.Bool.Decides.{nat_tests}
use Rattle.std.proofs.lemmas.Result.{err_from_is_err_and}
use Rattle.aq_base.specs.declared.observation.ObsKey.{ObsKey}
use Rattle.aq_base.specs.declared.observation.Observation.{Observation}
use Rattle.aq_base.specs.declared.limits.TheConstants.{MOST_OBSERVATIONS}
use Rattle.aq_shelf.specs.Standing.{IsInsertFault}
use Rattle.aq_shelf.specs.Stretches.{joined}
use Rattle.aq_shelf.proofs.ShelfLemmas.{IsShelf-put, length-put, ChangesOnly-put, IsInsertFault-put}
use Rattle.aq_shelf.proofs.shelf.Shelf.insert.Goals as goal

-- fewer than the most stand where the shelf is not full
room : (count : ℕ) → count ≤ MOST_OBSERVATIONS → nat_eq count MOST_OBSERVATIONS ≡ false → count < MOST_OBSERVATIONS
room count few other = grind (arith, nat_tests)

pub invariant_of-self-2 : goal.invariant_of-self-2
invariant_of-self-2 c =
    let rows = joined c.self.inside.stretches.entries in
    let ok = c.in_ok-put.ensures.ok in
    let counted = c.self.invariant.2 in
    let few = c.self.invariant.1.few in
    let within : c.self.inside.count ≤ MOST_OBSERVATIONS = omega arith in
    let less = room c.self.inside.count within c.in_ok-put.ensures.room in
    let more = ap length ok ∙ length-put c.args.key c.args.content rows c.in_ok-put.ensures.absent in
    let most : length (joined c.put.new.stretches.entries) ≤ MOST_OBSERVATIONS = omega arith in (
      c.put.ensures.stretches,
      IsShelf-put c.args.key c.args.content rows (joined c.put.new.stretches.entries) (rw c.number-full.ensures.value at c.number-full.ensures.range, c.requires) most c.self.invariant.1 ok,
      omega arith,
    )

pub returns-in_err-put-clause-refused : goal.returns-in_err-put-clause-refused
returns-in_err-put-clause-refused c =
    let rows = joined c.self.inside.stretches.entries in
    let fault = c.in_err-put.field-0.0 in
    let why = IsInsertFault-put fault c.args.key _ c.self.inside.count rows c.self.invariant.2 c.self.invariant.1.few refl c.in_err-put.ensures.refused in
    let p = err_from_is_err_and c.from_residual.result c.from_residual.ensures.1 in
    rw (p.1, p.2) (subst (λ (rows : List (ObsKey × Observation)). IsInsertFault fault c.args.key rows) c.self.view_is why)

pub returns-clause-keys : goal.returns-clause-keys
returns-clause-keys c = ChangesOnly-put c.args.key c.args.content (joined c.self.inside.stretches.entries) _ _ c.in_ok-put.ensures.ok c.self.view_is
