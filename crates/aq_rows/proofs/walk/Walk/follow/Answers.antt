use Rattle.std.proofs.Common.{◌≡◌, false, refl, ◌∙◌, sym, ap, subst}
use Rattle.std.specs.Result.{IfErr}
use Rattle.aq_keeper.specs.RowView.{row_of}
use Rattle.aq_rows.specs.OneMoreRow.{may_follow}
use Rattle.aq_rows.specs.Walking.{IsRowFault, standing}
use Rattle.aq_rows.proofs.walk.Walk.follow.Goals as goal

pub returns-in-Office-clause-refused : goal.returns-in-Office-clause-refused
returns-in-Office-clause-refused c =
    subst (λ row. IfErr c.take_record.result (IsRowFault (may_follow (standing c.args.self.now) row))) (ap row_of (sym c.in-Office.is) ∙ c.row.view_is) c.take_record.ensures.refused

-- a row of version 1 says nothing
pub returns-in-Observation-clause-refused : goal.returns-in-Observation-clause-refused
returns-in-Observation-clause-refused c =
    subst (λ row. may_follow (standing c.args.self.now) row ≡ false) (ap row_of (sym c.in-Observation.is) ∙ c.row.view_is) refl

pub returns-in-Second-clause-refused : goal.returns-in-Second-clause-refused
returns-in-Second-clause-refused c =
    subst (λ row. IfErr c.take_observation.result (IsRowFault (may_follow (standing c.args.self.now) row))) (ap row_of (sym c.in-Second.is) ∙ c.row.view_is) c.take_observation.ensures.refused

pub returns-in-Load-clause-refused : goal.returns-in-Load-clause-refused
returns-in-Load-clause-refused c =
    subst (λ row. IfErr c.take_load.result (IsRowFault (may_follow (standing c.args.self.now) row))) (ap row_of (sym c.in-Load.is) ∙ c.row.view_is) c.take_load.ensures.refused
