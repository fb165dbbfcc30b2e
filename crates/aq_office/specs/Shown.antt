-- Which answers have sheets with a text in JSON.
use Rattle.std.specs.Prelude.{⊤, Bool, true, false, All}
use Rattle.aq_base.specs.declared.question.Question.{Question}
use Rattle.aq_base.specs.declared.question.Question.TheVariants.{WhatIf, Decisive, Combined, Area}
use Rattle.aq_rules.specs.Questions.Answer.{Answer, OfSheets, OfText, Lacks}
use Rattle.aq_rules.specs.Shown.WellFormed.{IsWellFormed}

-- an answer of the book whose sheets are well formed
abbrev pub AreWellFormed : Answer → Type 0
AreWellFormed (OfSheets sheets) = All IsWellFormed sheets
AreWellFormed (OfText text) = ⊤
AreWellFormed (Lacks what) = ⊤

-- whether the laws of well-formed sheets speak of the question: the sheets of the others are so whatever numbers they show
abbrev pub has_law : Question → Bool
has_law (WhatIf standard site year assumed) = false
has_law (Decisive standard site year) = false
has_law (Combined standard site year) = false
has_law (Area standard area year) = false
has_law question = true
