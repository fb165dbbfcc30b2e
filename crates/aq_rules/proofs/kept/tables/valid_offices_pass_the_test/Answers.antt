use Rattle.aq_rules.proofs.ValidOffice.{valid-is_office, office-is_valid}
use Rattle.aq_rules.proofs.kept.tables.valid_offices_pass_the_test.Goals as goal

pub returns : goal.returns
returns c = λ office. (valid-is_office office, office-is_valid office)
