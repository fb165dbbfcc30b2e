use Rattle.aq_desk.proofs.Telling.{lines_message, writes_same}
use Rattle.aq_desk.proofs.messages.write_lines.Goals as goal

pub returns : goal.returns
returns g c = writes_same _ _ _ _ c.write_counted.result (lines_message c.args.lines) c.write_counted.ensures
