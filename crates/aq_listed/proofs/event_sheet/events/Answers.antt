use Rattle.std.proofs.Common.{◌∙◌, ap}
use Rattle.aq_rules.specs.Listed.Events as events
use Rattle.aq_listed.proofs.event_sheet.events.Goals as goal

pub returns : goal.returns
unfolding events.events_answer
returns g c = c.in_ok-sheet.ensures ∙ ap (events.events_sheet c.args.site) (c.as_slice.ensures ∙ c.in_ok-listed.ensures)
