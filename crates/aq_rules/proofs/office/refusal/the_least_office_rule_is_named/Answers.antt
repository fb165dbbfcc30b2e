use Rattle.aq_rules.specs.Office.Refusal.{breaks_office, office_rules}
use Rattle.aq_rules.proofs.Least.{IsLeastBroken-find, none_broken-find, office_rules-rise}
use Rattle.aq_rules.proofs.office.refusal.the_least_office_rule_is_named.Goals as goal

pub returns-clause-rule : goal.returns-clause-rule
returns-clause-rule c office value rule is =
    IsLeastBroken-find (λ r. breaks_office r office value) (office_rules value) rule (office_rules-rise value) is

pub returns-clause-none : goal.returns-clause-none
returns-clause-none c office value is = none_broken-find (λ r. breaks_office r office value) (office_rules value) is
