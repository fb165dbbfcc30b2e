-- The words and the path of a question are two readings of its row.
use Rattle.std.proofs.Common.{◌≡◌, ℕ, List, ◌∷◌, Some, None, Option, refl, ap, sym, ◌∙◌}
use Rattle.std.specs.Prelude.{◌↔◌, Ok}
use Rattle.aq_base.specs.declared.question.Question.{Question}
use Rattle.aq_base.specs.declared.question.Topic.{Topic}
use Rattle.aq_base.specs.declared.question.Topic.TheVariants.{Value, Report, Export, WhatIf, Decisive, Combined, Area as AreaTopic, Reply, Windows, Days, Pm25, Pm10, Sites, Monitors, Events, Flags, Loads, Daily, Highest, Completeness, Reports, Records, Lines}
use Rattle.aq_rules.specs.Lines.Spellings.{◌>>=◌}
use Rattle.aq_rules.specs.Questions.Asking.{topic_named, asked_in_words, asked_in_path, asked_or, question_of, refusal_of}
use Rattle.aq_rules.specs.Questions.Table.{all_topics, name_of, parts_of}

-- no two rows have one name
named-itself : (topic : Topic) → topic_named all_topics (name_of topic) ≡ Some topic
named-itself Value = refl
named-itself Report = refl
named-itself Export = refl
named-itself WhatIf = refl
named-itself Decisive = refl
named-itself Combined = refl
named-itself AreaTopic = refl
named-itself Reply = refl
named-itself Windows = refl
named-itself Days = refl
named-itself Pm25 = refl
named-itself Pm10 = refl
named-itself Sites = refl
named-itself Monitors = refl
named-itself Events = refl
named-itself Flags = refl
named-itself Loads = refl
named-itself Daily = refl
named-itself Highest = refl
named-itself Completeness = refl
named-itself Reports = refl
named-itself Records = refl
named-itself Lines = refl

pub words-ask : (topic : Topic) (texts : List (List ℕ)) → asked_in_words all_topics (name_of topic ∷ texts) ≡ question_of topic texts
unfolding asked_in_words
words-ask topic texts = ap (λ (o : Option Topic). o >>= (λ t. question_of t texts)) (named-itself topic)

asked-alike : (status : ℕ) (o : Option Question) (asked : Question) → (o ≡ Some asked) ↔ (asked_or status o ≡ Ok asked)
asked-alike status None asked = (λ h. cc, λ h. cc)
asked-alike status (Some question) asked = (λ h. cc, λ h. cc)

pub paths-ask : (topic : Topic) (texts : List (List ℕ)) (asked : Question)
    → (asked_in_words all_topics (name_of topic ∷ texts) ≡ Some asked) ↔ (asked_in_path topic texts ≡ Ok asked)
unfolding asked_in_path
paths-ask topic texts asked =
    let alike = asked-alike (refusal_of (parts_of topic) texts) (question_of topic texts) asked in
    (λ h. alike.0 (sym (words-ask topic texts) ∙ h), λ h. words-ask topic texts ∙ alike.1 h)
