use Rattle.std.proofs.Common.{◌≡◌, drop}
use Rattle.aq_rules.specs.Questions.Asking.{topic_named}
use Rattle.aq_words.proofs.asking.first_named.Given as goal

-- the questions that are left say what all do
abbrev pub invariant-loop-topic : goal.invariant-loop-topic
invariant-loop-topic l = topic_named (drop l.topic-index l.topics) l.name ≡ topic_named l.topics l.name
