use Rattle.aq_desk.proofs.Telling.{load_message, writes_same}
use Rattle.aq_desk.proofs.messages.write_no_load.Goals as goal

pub returns : goal.returns
returns g c = writes_same _ _ _ _ c.write_counted.result (load_message c.args.number) c.write_counted.ensures
