use Rattle.aq_rules.proofs.Joined.{line_of-cons}
use Rattle.aq_rules.proofs.shown.sheets.words_stand_behind_single_spaces.Goals as goal

pub returns : goal.returns
returns c = line_of-cons
