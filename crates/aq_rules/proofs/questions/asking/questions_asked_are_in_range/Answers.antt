use Rattle.aq_rules.proofs.AskedInRange.{asked-row, asked-range}
use Rattle.aq_rules.proofs.questions.asking.questions_asked_are_in_range.Goals as goal

pub returns : goal.returns
returns c = record { row = asked-row; range = asked-range }
