use Rattle.aq_rules.proofs.Greatest.{latest-is}
use Rattle.aq_rules.specs.Office.Designation.{Designation}
use Rattle.aq_rules.proofs.lists.latest_is_one_of_the_records.Goals as goal

pub returns : goal.returns
returns c = latest-is (λ (d : Designation). d.from)
