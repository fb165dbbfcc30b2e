use Rattle.std.proofs.Common.{refl}
use Rattle.aq_rules.specs.Questions.Table.{usage_of}
use Rattle.aq_rules.proofs.questions.asking.questions_in_words.Goals as goal

pub returns : goal.returns
unfolding usage_of
returns c = refl
