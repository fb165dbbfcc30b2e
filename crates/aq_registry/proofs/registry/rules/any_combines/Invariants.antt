use Rattle.std.proofs.Common.{◌≡◌}
use Rattle.std.specs.List.{list_any}
use Rattle.std.specs.Map.{values_of}
use Rattle.aq_rules.specs.Office.Office.{combines_either}
use Rattle.aq_registry.proofs.registry.rules.any_combines.Given as goal

-- whether one combines a site is still to be seen in what is left
abbrev pub invariant-loop-row : goal.invariant-loop-row
invariant-loop-row l =
    list_any (combines_either l.site l.joined l.pollutant) (values_of l.row-iterator)
    ≡ list_any (combines_either l.site l.joined l.pollutant) (values_of l.fn.part)
