-- The command `scan SITE DAY`: the input is taken as load 0 over an office of which nothing stands; its sheet is printed, and then the sheet of the day's windows (own).
use Rattle.std.specs.Prelude.{ℕ, if◌then◌else◌, List, []}
use Rattle.aq_base.specs.Site.{Site}
use Rattle.aq_base.specs.declared.question.Question.TheVariants.{Windows}
use Rattle.aq_rules.specs.Office.Load.{load, reply}
use Rattle.aq_rules.specs.Office.Office.{nothing}
use Rattle.aq_rules.specs.Shown.Sheet.{text_of}
use Rattle.aq_rules.specs.Shown.Sheets.{load_sheet}
use Rattle.aq_desk.specs.Ask.{ask_printout}
use Rattle.aq_desk.specs.Body.{excess, is_within}
use Rattle.aq_desk.specs.Command.{Printout, after_text, unwritten}

-- the sheet of the load, and then the windows over the office after it; a load with the number 0 is not kept, whatever its digest
unfoldable pub scan_answer : Site → ℕ → List ℕ → Printout
scan_answer site day body =
    after_text (text_of (load_sheet (reply nothing 0 body)))
    (ask_printout (Windows site day) (load nothing 0 [] body))

-- a body of too many bytes or lines is not taken
abbrev pub scan_outcome : Site → ℕ → List ℕ → Printout
scan_outcome site day body =
    if is_within body
    then scan_answer site day body
    else unwritten (excess body)
