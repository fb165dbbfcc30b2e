-- Refused lines counted by the numbers of their rules.
use Rattle.std.specs.Prelude.{◌≡◌, ℕ, ◌<◌, ◌==◌, count_by, slice_index, if◌then◌else◌, Option, Some, None, List}
use Rattle.aq_base.specs.Rule.{rule_number}
use Rattle.aq_base.specs.declared.reply.ListedLine.{ListedLine}
use Rattle.aq_base.specs.declared.reply.RestRule.{RestRule}
use Rattle.aq_base.specs.declared.rule.Rule.{Rule}

-- counts by the numbers of rules are those of the refused lines
abbrev pub CountsByNumber : List ListedLine → List ℕ → Type 0
CountsByNumber refused counts = (number : ℕ) → number < 256 → slice_index counts number ≡ count_by (λ listed. rule_number listed.rule == number) refused

-- so many lines under a rule as its number has, if there are any
abbrev pub counted : Rule → ℕ → Option RestRule
counted rule count = if count == 0 then None else Some (record { rule = rule; count = count })

abbrev pub counted_in : List ℕ → Rule → Option RestRule
counted_in counts rule = counted rule (slice_index counts (rule_number rule))
