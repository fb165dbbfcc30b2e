use Rattle.std.specs.Prelude.{true}
use Rattle.std.proofs.Common.{◌≡◌, subst}
use Rattle.aq_base.specs.declared.office.OfficeRecord.{OfficeRecord}
use Rattle.aq_base.specs.declared.observation.Observation.{Observation}
use Rattle.aq_rules.specs.Office.Load.{is_same_record, is_same_content}
use Rattle.aq_rules.proofs.SameRows.{record-same, record-itself, content-same, content-itself}
use Rattle.aq_rules.proofs.office.load.sameness_of_rows_is_equality.Goals as goal

pub returns-clause-records : goal.returns-clause-records
returns-clause-records c a b = (record-same a b, λ e. subst (λ (r : OfficeRecord). is_same_record a r ≡ true) e (record-itself a))

pub returns-clause-observations : goal.returns-clause-observations
returns-clause-observations c a b = (content-same a b, λ e. subst (λ (o : Observation). is_same_content a o ≡ true) e (content-itself a))
