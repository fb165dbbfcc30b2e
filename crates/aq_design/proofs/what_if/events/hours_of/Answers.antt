use Rattle.std.proofs.Common.{ap, ◌∙◌}
use Rattle.aq_series.specs.OfficeView.{office_of}
use Rattle.aq_design.specs.WhatIf.Standing.{hours_in}
use Rattle.aq_design.proofs.WhatIfLemmas.StandingLemmas.{event-there}
use Rattle.aq_design.proofs.what_if.events.hours_of.Goals as goal

pub returns : goal.returns
returns c = λ rows agreed.
    let event = event-there c.args.registry.now c.args.number c.hours_in.result c.requires.stands (c.hours_in.ensures ∙ ap hours_in c.get.ensures) in
    c.years_outside_an_event_are_as_before.ensures (office_of c.args.registry.now rows) (record { number = c.args.number; agreed = agreed }) event.0 event.1 _ _ event.2 c.requires.valid c.requires.number event.3
