use Rattle.std.proofs.Common.{[], sym}
use Rattle.std.proofs.lemmas.List.{append-nil}
use Rattle.aq_rules.specs.Listed.Records.{records_answer}
use Rattle.aq_rules.specs.Office.Office.{nothing}
use Rattle.aq_rules.proofs.RecordsLoadBack.{records-back}
use Rattle.aq_rules.proofs.listed.loads_back.records_load_back.Goals as goal

pub returns : goal.returns
unfolding records_answer
returns c = record {
  piece = records-back;
  whole = λ office valid. records-back office nothing office.records [] valid (sym (append-nil office.records));
}
