use Rattle.aq_rules.specs.Lines.Reading.{breaks, reading_rules}
use Rattle.aq_rules.proofs.Least.{IsLeastBroken-find, none_broken-find, reading_rules-rise}
use Rattle.aq_rules.proofs.lines.reading.the_least_rule_is_named.Goals as goal

pub returns-clause-rule : goal.returns-clause-rule
returns-clause-rule c line rule is =
    IsLeastBroken-find (λ r. breaks r line) (reading_rules line) rule (reading_rules-rise line) is

pub returns-clause-none : goal.returns-clause-none
returns-clause-none c line is = none_broken-find (λ r. breaks r line) (reading_rules line) is
