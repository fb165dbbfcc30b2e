use Rattle.aq_rules.proofs.RoundTrip.{round-office}
use Rattle.aq_rules.proofs.lines.canonical.canonical_office_lines_are_read_back.Goals as goal

pub returns : goal.returns
returns c line is = round-office line is
