use Rattle.std.proofs.Common.{◌≡◌}
use Rattle.std.specs.Map.{values_of}
use Rattle.aq_rules.specs.Office.Questions.{first_given}
use Rattle.aq_registry.specs.Registry.{missed_by}
use Rattle.aq_registry.proofs.registry.first_missed.Given as goal

-- the first answer is among what is left
abbrev pub invariant-loop-row : goal.invariant-loop-row
invariant-loop-row l = first_given (missed_by l.makeup) (values_of l.row-iterator) ≡ first_given (missed_by l.makeup) (values_of l.fn.part)
