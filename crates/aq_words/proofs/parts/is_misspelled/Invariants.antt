use Rattle.std.proofs.Common.{◌≡◌, drop, map}
use Rattle.aq_rules.specs.Questions.Asking.{is_misspelled}
use Rattle.aq_words.specs.Parts.{part_of}
use Rattle.aq_words.specs.Texts.{texts_of}
use Rattle.aq_words.proofs.parts.is_misspelled.Given as goal

-- what is left says what the whole does
abbrev pub invariant-loop-place : goal.invariant-loop-place
invariant-loop-place l =
    is_misspelled (drop l.place (map part_of l.parts)) (drop l.place (texts_of l.texts)) ≡ is_misspelled (map part_of l.parts) (texts_of l.texts)
