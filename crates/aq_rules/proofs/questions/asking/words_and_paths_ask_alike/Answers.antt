use Rattle.aq_rules.proofs.AskedAlike.{words-ask, paths-ask}
use Rattle.aq_rules.proofs.questions.asking.words_and_paths_ask_alike.Goals as goal

pub returns : goal.returns
returns c = record { words = words-ask; paths = paths-ask }
