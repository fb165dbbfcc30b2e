use Rattle.std.proofs.Common.{◌≡◌, ◌+◌, ◌*◌, ◌≤◌, ◌++◌, length}
use Rattle.aq_base.specs.declared.standard.Standard.TheVariants.{Ozone2015}
use Rattle.aq_registry.specs.Events.{events_above}
use Rattle.aq_design.proofs.WhatIfLemmas.Turned.{deciding}
use Rattle.aq_design.proofs.what_if.events.decisive.Given as goal

-- those that decide of the events that are left join those that were found
abbrev pub invariant-loop-number : goal.invariant-loop-number
invariant-loop-number g l = record {
  events :
      l.events ++ deciding l.standing.standard l.registry l.shelf l.site l.year (events_above l.registry l.site l.pollutant l.after)
      ≡ deciding l.standing.standard l.registry l.shelf l.site l.year (events_above l.registry l.site l.pollutant 0);
  steps : l.standing.standard ≡ Ozone2015
      → l.steps + 3 * (200 * 367) * length (events_above l.registry l.site l.pollutant l.after)
      ≤ l.fn.steps + 3 * (200 * 367) * (1 + length (events_above l.registry l.site l.pollutant 0));
}

abbrev pub decreases-loop-number : goal.decreases-loop-number
decreases-loop-number g l = length (events_above l.registry l.site l.pollutant l.after)
