use Rattle.std.proofs.Common.{◌≡◌, List, true, refl, sym, subst}
use Rattle.std.specs.Prelude.{map}
use Rattle.aq_keeper.proofs.Telling.{stays}
use Rattle.aq_rules.specs.Kept.RowChanges.{RowChange, batch_rises, changed_key}
use Rattle.aq_office.proofs.Taking.{lost_before, lost_behind, on_err, ready_costs, shown, taken}
use Rattle.aq_office.specs.Posting.{Commits}
use Rattle.aq_office.proofs.posting.post_new.Goals as goal

pub commit-requires : goal.commit-requires
commit-requires g c =
    subst (λ (changes : List RowChange). batch_rises (map changed_key changes) ≡ true) (sym c.as_slice.ensures) c.in_ok-ready.ensures.in_order

pub returns-in_err-ready-clause-lost : goal.returns-in_err-ready-clause-lost
returns-in_err-ready-clause-lost g c =
    on_err _ c.from_residual.result
    (lost_before c.args.book.now c.args.number c.args.digest c.args.body.now (g.K.Keeper.seen c.args.keeper.now) (g.K.Keeper.seen c.args.keeper.now) (stays (g.K.Keeper.seen c.args.keeper.now).tables, refl))

pub returns-in_err-stands-clause-lost : goal.returns-in_err-stands-clause-lost
returns-in_err-stands-clause-lost g c =
    on_err _ c.from_residual-in_err-stands.result
    (lost_before c.args.book.now c.args.number c.args.digest c.args.body.now (g.K.Keeper.seen c.args.keeper.now) (g.K.Keeper.seen c.commit.new.keeper) c.in_err-stands.ensures.lost)

pub returns-then-not-stands-clause-taken : goal.returns-then-not-stands-clause-taken
returns-then-not-stands-clause-taken g c =
    let kept = subst (λ b. Commits b c.as_slice.result.now (g.K.Keeper.seen c.args.keeper.now) (g.K.Keeper.seen c.commit.new.keeper)) c.if-not-stands.true c.in_ok-stands.ensures.done in
    (refl {a = c.args.book.now}, kept.0, kept.1)

pub returns-clause-taken : goal.returns-clause-taken
returns-clause-taken g c =
    taken c.args.book.now c.args.number c.args.digest c.args.body.now c.in_ok-ready.ready c.in_ok-ready.ensures
    (g.K.Keeper.seen c.args.keeper.now) (g.K.Keeper.seen c.commit.new.keeper)
    (subst (λ (changes : List RowChange). Commits true changes (g.K.Keeper.seen c.args.keeper.now) (g.K.Keeper.seen c.commit.new.keeper)) c.as_slice.ensures
    (subst (λ b. Commits b c.as_slice.result.now (g.K.Keeper.seen c.args.keeper.now) (g.K.Keeper.seen c.commit.new.keeper)) c.if-not-stands.false c.in_ok-stands.ensures.done))
    c.take.new.book c.take.result c.take.ensures.book c.take.ensures.answer

pub returns-clause-shown : goal.returns-clause-shown
returns-clause-shown g c =
    shown c.args.book.now c.args.number c.args.digest c.args.body.now c.in_ok-ready.ready c.in_ok-ready.ensures c.take.result c.take.ensures.answer

pub returns-clause-lost : goal.returns-clause-lost
returns-clause-lost g c =
    lost_behind c.args.book.now c.args.number c.args.digest c.args.body.now c.in_ok-ready.ready c.in_ok-ready.ensures
    (g.K.Keeper.seen c.args.keeper.now) (g.K.Keeper.seen c.commit.new.keeper)
    (subst (λ (changes : List RowChange). Commits true changes (g.K.Keeper.seen c.args.keeper.now) (g.K.Keeper.seen c.commit.new.keeper)) c.as_slice.ensures
    (subst (λ b. Commits b c.as_slice.result.now (g.K.Keeper.seen c.args.keeper.now) (g.K.Keeper.seen c.commit.new.keeper)) c.if-not-stands.false c.in_ok-stands.ensures.done))
    c.take.result c.line_count.ensures.few c.requires.new

pub returns-clause-steps : goal.returns-clause-steps
returns-clause-steps g c =
    ready_costs c.args.book.now c.args.number c.args.digest c.args.body.now c.in_ok-ready.ready c.in_ok-ready.ensures c.args.steps.now c.take.new.steps c.take.ensures.steps
