-- Texts of another number than the parts ask nothing.
use Rattle.std.proofs.Common.{◌≡◌, ◌<◌, ◌≤◌, ℕ, List, [], ◌∷◌, length, Option, Some, None, refl, ap, sym, ◌∙◌, arith}
use Rattle.std.specs.Borrow.{Bor}
use Rattle.std.proofs.lemmas.List.{length-map}
use Rattle.aq_base.specs.declared.question.Question.{Question}
use Rattle.aq_base.specs.declared.question.Topic.{Topic}
use Rattle.aq_base.specs.declared.question.Topic.TheVariants.{Area, Combined, Completeness, Daily, Days, Decisive, Events, Export, Flags, Highest, Lines, Loads, Monitors, Pm10, Pm25, Records, Reply, Report, Reports, Sites, Value, WhatIf, Windows}
use Rattle.aq_rules.specs.Lines.Spellings.{◌>>=◌}
use Rattle.aq_rules.specs.Questions.Asking.{named_by, question_by, question_of}
use Rattle.aq_words.specs.Texts.{texts_of}
use Rattle.aq_rules.specs.Questions.Table.{Named, Part, Wanting, parts_of, row_of}

no_more : {A B : Type 0} (o : Option A) (next : A → Option B) → ((x : A) → next x ≡ None) → (o >>= next) ≡ None
no_more None next none = refl
no_more (Some x) next none = none x

uncounted : (parts : List Part) (wanting : Wanting parts) (texts : List (List ℕ)) → (length texts ≡ length parts → ⊥) → question_by parts wanting texts ≡ None
uncounted [] wanting [] other = absurd (other refl)
uncounted [] wanting (text ∷ texts) other = refl
uncounted (part ∷ parts) wanting [] other = refl
uncounted (part ∷ parts) wanting (text ∷ texts) other =
    no_more (named_by part text) (λ named. question_by parts (wanting named) texts) λ named. uncounted parts (wanting named) texts λ same. other (omega (arith, same))

-- no question has more than four parts
few_parts : (topic : Topic) → length (parts_of topic) ≤ 4
few_parts Value = omega arith
few_parts Report = omega arith
few_parts Export = omega arith
few_parts WhatIf = omega arith
few_parts Decisive = omega arith
few_parts Combined = omega arith
few_parts Area = omega arith
few_parts Reply = omega arith
few_parts Windows = omega arith
few_parts Days = omega arith
few_parts Pm25 = omega arith
few_parts Pm10 = omega arith
few_parts Sites = omega arith
few_parts Monitors = omega arith
few_parts Events = omega arith
few_parts Flags = omega arith
few_parts Loads = omega arith
few_parts Daily = omega arith
few_parts Highest = omega arith
few_parts Completeness = omega arith
few_parts Reports = omega arith
few_parts Records = omega arith
few_parts Lines = omega arith

pub too_many_words : (topic : Topic) (texts : List (List ℕ)) → 4 < length texts → None ≡ question_of topic texts
unfolding question_of
too_many_words topic texts many =
    sym (uncounted (parts_of topic) (row_of topic).question texts λ same. let few = few_parts topic in omega (arith, same, few, many))

pub wrong_count : (topic : Topic) (texts : List (Bor (List ℕ))) → (length texts ≡ length (parts_of topic) → ⊥) → None ≡ question_of topic (texts_of texts)
unfolding question_of
wrong_count topic texts other =
    sym (uncounted (parts_of topic) (row_of topic).question (texts_of texts) λ same. other (sym (length-map texts (λ text. text.now)) ∙ same))
