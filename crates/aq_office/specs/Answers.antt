-- What answers questions about an office.
use Rattle.std.specs.Prelude.{◌≡◌, ⊤, All}
use Rattle.aq_base.specs.Site.{Site}
use Rattle.aq_office.specs.declared.answers.Answer.{Answer}
use Rattle.aq_office.specs.declared.answers.Answer.TheVariants.{Sheets, Text, Lacks}
use Rattle.aq_office.specs.declared.answers.Lack.{Lack}
use Rattle.aq_office.specs.declared.answers.Lack.TheVariants.{NoSite, NoEvent, NoCombination, NoSiteInArea, NoLoad}
use Rattle.aq_rules.specs.Questions.Answer as questions
use Rattle.aq_rules.specs.Shown.WellFormed.{IsWellFormed}
use Rattle.aq_design.specs.declared.what_if.fault.WhatIfFault.{WhatIfFault}
use Rattle.aq_design.specs.declared.what_if.fault.WhatIfFault.TheVariants.{UnknownSite, UnknownEvent, Memory}

-- what is not there, as the book has it
abbrev pub lack_of : Lack → questions.Lack
lack_of (NoSite site) = questions.NoSite site
lack_of (NoEvent number) = questions.NoEvent number
lack_of (NoCombination site) = questions.NoCombination site
lack_of NoSiteInArea = questions.NoSiteInArea
lack_of (NoLoad number) = questions.NoLoad number

-- an answer, as the book has it
abbrev pub seen : Answer → questions.Answer
seen (Sheets sheets) = questions.OfSheets sheets
seen (Text text) = questions.OfText text.items
seen (Lacks what) = questions.Lacks (lack_of what)

-- each sheet of an answer has a text in JSON
abbrev pub IsShown : Answer → Type 0
IsShown (Sheets sheets) = All IsWellFormed sheets
IsShown (Text text) = ⊤
IsShown (Lacks what) = ⊤

-- a question of assumed concurrences is answered with what is missing; for want of memory it is not answered
abbrev pub IsRefusal : WhatIfFault → Site → Answer → Type 0
IsRefusal UnknownSite site answer = seen answer ≡ questions.Lacks (questions.NoSite site)
IsRefusal (UnknownEvent number) site answer = seen answer ≡ questions.Lacks (questions.NoEvent number)
IsRefusal Memory site answer = ⊥
