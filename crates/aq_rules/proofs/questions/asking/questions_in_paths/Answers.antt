use Rattle.std.proofs.Common.{refl}
use Rattle.aq_rules.specs.Questions.Table.{pattern_of}
use Rattle.aq_rules.proofs.questions.asking.questions_in_paths.Goals as goal

pub returns : goal.returns
unfolding pattern_of
returns c = refl
