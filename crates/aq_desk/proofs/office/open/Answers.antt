use Rattle.std.proofs.Common.{ap, subst, sym}
use Rattle.aq_rules.specs.Office.Office.{Office}
use Rattle.aq_desk.proofs.Opening.{opened_migrates, read_migrates, read_opened, stopped_unopened, unfilled, unopened_migrates}
use Rattle.aq_desk.specs.Office.{HasOpened}
use Rattle.aq_desk.proofs.office.open.Goals as goal

pub returns-in_err-opened-clause-stopped : goal.returns-in_err-opened-clause-stopped
returns-in_err-opened-clause-stopped g c =
    stopped_unopened c.from_residual-in_err-opened.result _ _ _ _ _ _ c.in_err-opened.field-0.0 c.from_residual-in_err-opened.ensures.1 c.in_ok-rows.ensures.kept c.in_ok-rows.ensures.cause c.in_err-opened.ensures.stopped

pub returns-in_err-over-clause-stopped : goal.returns-in_err-over-clause-stopped
returns-in_err-over-clause-stopped g c =
    unfilled c.from_residual-in_err-over.result _ _ _ _ _ _ c.in_ok-opened.opened c.from_residual-in_err-over.ensures.1 c.in_ok-rows.ensures.kept c.in_ok-rows.ensures.cause c.in_ok-opened.ensures.opened c.in_ok-opened.ensures.steady

pub returns-clause-opened : goal.returns-clause-opened
returns-clause-opened g c =
    subst (λ (o : Office). HasOpened o (g.K.Keeper.seen c.args.keeper.now).tables (g.K.Keeper.seen c.open_rows.new.keeper).tables) (sym c.in_ok-over.ensures)
    (read_opened _ _ _ c.in_ok-opened.opened c.in_ok-rows.ensures.kept c.in_ok-opened.ensures.opened)

pub returns-in_err-rows-clause-only_migrates : goal.returns-in_err-rows-clause-only_migrates
returns-in_err-rows-clause-only_migrates g c =
    let seen = g.K.Keeper.seen in
    read_migrates (seen c.args.keeper.now) (seen c.read_all.new.self) c.in_err-rows.ensures.commits

pub returns-in_err-opened-clause-only_migrates : goal.returns-in_err-opened-clause-only_migrates
returns-in_err-opened-clause-only_migrates g c =
    let seen = g.K.Keeper.seen in
    unopened_migrates (seen c.args.keeper.now) (seen c.read_all.new.self) (seen c.open_rows.new.keeper) c.as_slice.result.now (rw c.as_slice.ensures c.in_ok-rows.ensures.rows)
    c.in_ok-rows.ensures.kept c.in_ok-rows.ensures.commits (λ new. ap (λ k. (seen k).commits) (c.in_err-opened.ensures.untouched new)) _ _ c.in_err-opened.field-0.0 c.in_err-opened.ensures.stopped

pub returns-in_err-over-clause-only_migrates : goal.returns-in_err-over-clause-only_migrates
returns-in_err-over-clause-only_migrates g c =
    let seen = g.K.Keeper.seen in
    opened_migrates (seen c.args.keeper.now) (seen c.read_all.new.self) (seen c.open_rows.new.keeper) c.as_slice.result.now (rw c.as_slice.ensures c.in_ok-rows.ensures.rows)
    c.in_ok-rows.ensures.kept c.in_ok-rows.ensures.commits (λ new. ap (λ k. (seen k).commits) (c.in_ok-opened.ensures.untouched new)) c.in_ok-opened.opened c.in_ok-opened.ensures.opened

pub returns-clause-only_migrates : goal.returns-clause-only_migrates
returns-clause-only_migrates g c =
    let seen = g.K.Keeper.seen in
    opened_migrates (seen c.args.keeper.now) (seen c.read_all.new.self) (seen c.open_rows.new.keeper) c.as_slice.result.now (rw c.as_slice.ensures c.in_ok-rows.ensures.rows)
    c.in_ok-rows.ensures.kept c.in_ok-rows.ensures.commits (λ new. ap (λ k. (seen k).commits) (c.in_ok-opened.ensures.untouched new)) c.in_ok-opened.opened c.in_ok-opened.ensures.opened
