-- The commands `try` and `changes FIRST LAST`: what the input would make of the office of the tables is printed, and the office stays as it is (own).
use Rattle.std.specs.Prelude.{if◌then◌else◌, List, ℕ}
use Rattle.aq_rules.specs.Extracts.Changes.{ChangesAnswer, RefusedAt, OfLines, changes_answer}
use Rattle.aq_rules.specs.Extracts.Try.{try_answer}
use Rattle.aq_rules.specs.Kept.Rows.{Row}
use Rattle.aq_rules.specs.Office.Office.{Office}
use Rattle.aq_rules.specs.Shown.Sheet.{text_of}
use Rattle.aq_words.specs.declared.words.Draft.{Draft}
use Rattle.aq_words.specs.declared.words.Draft.TheVariants.{Try, Changes}
use Rattle.aq_desk.specs.Ask.{ask_outcome}
use Rattle.aq_desk.specs.Body.{excess, is_within}
use Rattle.aq_desk.specs.Command.{Outcome, Printout, leaving, printed, unwritten}
use Rattle.aq_desk.specs.Ending.{line_refused}

-- the lines that bring what stands up to date, unless a line of the extract breaks a rule: then nothing is printed
abbrev pub changes_printout : ChangesAnswer → Printout
changes_printout (RefusedAt line rule) = unwritten (line_refused line rule)
changes_printout (OfLines text) = printed text

-- the sheet of the reply that a load would get, or the lines for an extract
unfoldable pub draft_printout : Draft → List ℕ → Office → Printout
draft_printout Try body office = printed (text_of (try_answer office body))
draft_printout (Changes first last) body office = changes_printout (changes_answer (record { first = first; last = last }) office body)

unfoldable pub draft_answer : Draft → List ℕ → List Row → Outcome
draft_answer draft body rows = ask_outcome (draft_printout draft body) rows

-- a body of too many bytes or lines is not looked at, whatever the tables hold
abbrev pub draft_outcome : Draft → List Row → List ℕ → Outcome
draft_outcome draft rows body =
    if is_within body
    then draft_answer draft body rows
    else leaving rows (unwritten (excess body))
