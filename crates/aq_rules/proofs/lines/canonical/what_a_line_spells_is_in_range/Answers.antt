use Rattle.aq_rules.proofs.ValidLines.{line_valid}
use Rattle.aq_rules.proofs.lines.canonical.what_a_line_spells_is_in_range.Goals as goal

pub returns : goal.returns
returns c line value is = line_valid line value is
