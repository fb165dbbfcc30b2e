-- What is asked of the office of the tables: a question, or what an input would make of it (own).
use Rattle.std.specs.Prelude.{⊤, IsTrue}
use Rattle.aq_rules.specs.Office.Office.{Office}
use Rattle.aq_rules.specs.Questions.Asking.{is_asked}
use Rattle.aq_desk.specs.Ask.{ask_printout}
use Rattle.aq_desk.specs.Command.{Printout}
use Rattle.aq_desk.specs.Draft.{draft_printout}
use Rattle.aq_desk.specs.declared.asked.Asked.{Asked}
use Rattle.aq_desk.specs.declared.asked.Asked.TheVariants.{Question, Draft}

abbrev pub asked_printout : Asked → Office → Printout
asked_printout (Question question) = ask_printout question.now
asked_printout (Draft draft body) = draft_printout draft.now body.now

-- a question has its numbers in range
abbrev pub IsAskable : Asked → Type 0
IsAskable (Question question) = IsTrue (is_asked question.now)
IsAskable (Draft draft body) = ⊤
