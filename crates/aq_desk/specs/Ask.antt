-- The commands that ask: the answer to a question is printed over the office of the tables (own).
use Rattle.std.specs.Prelude.{◌≡◌, ⊤, List}
use Rattle.aq_base.specs.declared.question.Question.{Question}
use Rattle.aq_office.specs.Answers.{lack_of}
use Rattle.aq_rules.specs.Kept.Rows.{Row, rows_of}
use Rattle.aq_rules.specs.Office.Office.{Office}
use Rattle.aq_rules.specs.Questions.Answer.{Answer, OfSheets, OfText, Lacks, Lack, NoSite, NoEvent, NoCombination, NoSiteInArea, NoLoad, answer, texts_of}
use Rattle.aq_desk.specs.Command.{Outcome, Printout, leaving, printed, unwritten}
use Rattle.aq_desk.specs.Ending.{Ending, line_refused, no_combination, no_event, no_load, no_site, no_site_in_area}
use Rattle.aq_desk.specs.Office.{over_office}
use Rattle.aq_desk.specs.declared.stop.Stop.{Stop}
use Rattle.aq_desk.specs.declared.stop.Stop.TheVariants as stops

-- what is printed over the office of the tables, which are then its own
unfoldable pub ask_outcome : (Office → Printout) → List Row → Outcome
ask_outcome printout rows = over_office rows (λ office. leaving (rows_of office) (printout office))

-- the ending of a question without an answer, by what is missing
abbrev pub lacking : Lack → Ending
lacking (NoSite site) = no_site site
lacking (NoEvent number) = no_event number
lacking (NoCombination site) = no_combination site
lacking NoSiteInArea = no_site_in_area
lacking (NoLoad number) = no_load number

-- the texts of the sheets, one after the other, or a text
abbrev pub answered : Answer → Printout
answered (OfSheets sheets) = printed (texts_of sheets)
answered (OfText text) = printed text
answered (Lacks what) = unwritten (lacking what)

unfoldable pub ask_printout : Question → Office → Printout
ask_printout question office = answered (answer office question)

-- why an answer is not printed: something is missing, a line breaks a rule, or memory ran out
abbrev pub IsUnanswered : Printout → Stop → Type 0
IsUnanswered printout stops.Memory = ⊤
IsUnanswered printout (stops.Lacks what) = printout ≡ unwritten (lacking (lack_of what))
IsUnanswered printout (stops.Refused line rule) = printout ≡ unwritten (line_refused line rule)
IsUnanswered printout _ = ⊥
