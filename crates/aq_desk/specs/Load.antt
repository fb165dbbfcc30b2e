-- The command `load NUMBER`: the input is taken as the load with this number over the office of the tables; its sheet is printed, and the tables are those with the load (own).
use Rattle.std.specs.Prelude.{◌≡◌, ℕ, if◌then◌else◌, List, Result, Ok, Err}
use Rattle.sha2.specs.Sha256.{sha256}
use Rattle.aq_rules.specs.Kept.Rows.{Row, rows_of}
use Rattle.aq_rules.specs.Lines.Lines.{line_count}
use Rattle.aq_rules.specs.Office.Load.{Posted, TooManyLines, Repeated, Differing, NoRoom, Taken, posted}
use Rattle.aq_rules.specs.Office.Office.{Office}
use Rattle.aq_rules.specs.Shown.Sheet.{Sheet, text_of}
use Rattle.aq_rules.specs.Shown.Sheets.{load_sheet}
use Rattle.aq_desk.specs.Body.{excess, is_within}
use Rattle.aq_desk.specs.Command.{Outcome, leaving, printed, unwritten}
use Rattle.aq_desk.specs.Ending.{conflict, loads_full, too_many_lines}
use Rattle.aq_desk.specs.Office.{over_office}
use Rattle.aq_desk.specs.declared.stop.Stop.{Stop}
use Rattle.aq_desk.specs.declared.stop.Stop.TheVariants as stops
use Rattle.aq_office.specs.declared.posting.Posted as answers
use Rattle.aq_office.specs.declared.posting.Posted.TheVariants.{Done, Conflict, Full, Failed}

-- a known number with the same body gives the kept reply; the office changes only if the load is taken
abbrev pub posted_outcome : ℕ → Office → List ℕ → Posted → Outcome
posted_outcome number office body TooManyLines = leaving (rows_of office) (unwritten (too_many_lines (line_count body)))
posted_outcome number office body (Repeated kept) = leaving (rows_of office) (printed (text_of (load_sheet kept)))
posted_outcome number office body (Differing kept sent) = leaving (rows_of office) (unwritten (conflict number kept sent))
posted_outcome number office body NoRoom = leaving (rows_of office) (unwritten loads_full)
posted_outcome number office body (Taken reply now) = leaving (rows_of now) (printed (text_of (load_sheet reply)))

-- the digest of a load is the SHA-256 of its body
unfoldable pub load_answer : ℕ → List ℕ → List Row → Outcome
load_answer number body rows =
    over_office rows (λ office. posted_outcome number office body (posted office number (sha256 body) body))

-- a body of too many bytes or lines is not taken, whatever the tables hold
abbrev pub load_outcome : ℕ → List Row → List ℕ → Outcome
load_outcome number rows body =
    if is_within body
    then load_answer number body rows
    else leaving rows (unwritten (excess body))

-- ---- a load that was posted

-- the text of a sheet, unless memory ran out
abbrev pub IsTextOfSheet : Sheet → Result (List ℕ) Stop → Type 0
IsTextOfSheet sheet (Ok text) = text ≡ text_of sheet
IsTextOfSheet sheet (Err stop) = stop ≡ stops.Memory

-- what is printed of it, or what stops the command
abbrev pub IsTextOf : answers.Posted → ℕ → Result (List ℕ) Stop → Type 0
IsTextOf (Done sheet) number answer = IsTextOfSheet sheet answer
IsTextOf (Conflict kept sent) number answer = answer ≡ Err (stops.Conflict number kept sent)
IsTextOf Full number answer = answer ≡ Err stops.LoadsFull
IsTextOf Failed number answer = answer ≡ Err stops.KeeperFailed
