-- What it means that a rule is the first one that a line breaks.
use Rattle.std.specs.Prelude.{◌≡◌, ◌<◌, ℕ, Bool, true, false, List, [], ◌∷◌, All, Contains}
use Rattle.aq_base.specs.Rule.{rule_number}
use Rattle.aq_base.specs.declared.rule.Rule.{Rule}

-- the rule is one of the list and is broken, and none of the list with a smaller number is
pub record IsLeastBroken (is_broken : Rule → Bool) (rules : List Rule) (rule : Rule) : Type 0 where
  pub listed : Contains rules rule
  pub broken : is_broken rule ≡ true
  pub least : All (λ other. rule_number other < rule_number rule → is_broken other ≡ false) rules

-- rules rise by their numbers
abbrev pub rule_rank : Rule → List ℕ
rule_rank rule = rule_number rule ∷ []
