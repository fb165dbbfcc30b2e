use Rattle.aq_desk.proofs.Telling.{event_message, writes_same}
use Rattle.aq_desk.proofs.messages.write_no_event.Goals as goal

pub returns : goal.returns
returns g c = writes_same _ _ _ _ c.write_counted.result (event_message c.args.number) c.write_counted.ensures
