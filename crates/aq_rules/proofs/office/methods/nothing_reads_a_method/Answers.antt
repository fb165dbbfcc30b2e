use Rattle.aq_rules.proofs.MethodUnread.{hour-unread, day-unread, export-unread}
use Rattle.aq_rules.proofs.office.methods.nothing_reads_a_method.Goals as goal

pub returns : goal.returns
returns c = record { hour = hour-unread; day = day-unread; export = export-unread }
