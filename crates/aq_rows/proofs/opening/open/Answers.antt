use Rattle.std.proofs.Common.{◌∙◌, sym, ap, subst, Some}
use Rattle.aq_rules.specs.Kept.Rows.{damage}
use Rattle.aq_rows.specs.OneMoreRow.{may_follow}
use Rattle.aq_rows.specs.Walking.{IsRowFault, standing}
use Rattle.aq_rows.proofs.WholeWalk.{start, step, stopped, opened}
use Rattle.aq_rows.proofs.opening.open.Goals as goal

pub loop-index-init : goal.loop-index-init
loop-index-init c = start c.args.rows.now c.new-walk.result c.new-walk.ensures.office c.new-walk.ensures.walk

pub returns-in-Err-Damaged-clause-damaged : goal.returns-in-Err-Damaged-clause-damaged
returns-in-Err-Damaged-clause-damaged c =
    stopped c.args.rows.now c.loop-index.index c.index-rows-index.result c.loop-index.walk c.loop-index-test.true c.index-rows-index.is (damage c.args.rows.now) c.loop-index.invariant
    (subst (IsRowFault (may_follow (standing c.loop-index.walk) c.index-rows-index.result)) c.in-Err-Damaged.field-0-is c.in-Err-Damaged.ensures.refused)
    ∙ ap Some (sym c.place_of.ensures)

pub loop-index-preserved : goal.loop-index-preserved
loop-index-preserved c =
    step c.args.rows.now c.loop-index.index c.index-rows-index.result c.loop-index.walk c.loop-index-test.true c.index-rows-index.is c.follow.new.self (damage c.args.rows.now)
    c.loop-index.invariant c.in-Ok.ensures.taken

pub returns-clause-office : goal.returns-clause-office
returns-clause-office c = opened c.args.rows.now c.loop-index.index c.loop-index.walk (damage c.args.rows.now) c.loop-index-test.false c.loop-index.invariant
