-- What stops a command, the ending of each cause, and what a command does that was stopped so.
use Rattle.std.specs.Prelude.{◌≡◌, ◌⊎◌, ℕ, ◌+◌, ◌<◌, ◌≤◌, Bool, true, false, List, [], ◌++◌, length, Option, Result, Ok, Err, IfOk, IsErr}
use Rattle.std.specs.Option.{option_map}
use Rattle.aq_rules.specs.Kept.Rows.{Row}
use Rattle.aq_rules.specs.Limits.{MOST_BYTES}
use Rattle.aq_office.specs.Answers.{lack_of}
use Rattle.aq_desk.specs.Ask.{lacking}
use Rattle.aq_desk.specs.Body.{is_within}
use Rattle.aq_desk.specs.Command.{IsWhole, Keeps, Outcome, Printout, ReadsWhole, RisesAt, printout_of}
use Rattle.aq_desk.specs.Ending.{Ending, done, input_failed, output_failed, keeper_failed, damaged, no_memory, door_failed, conflict, line_refused, too_many_bytes, too_many_lines, loads_full}
use Rattle.aq_desk.specs.Writing.{WritesFront}
use Rattle.aq_outside.specs.Outside.{IsAll, SinkView, SourceView}
use Rattle.aq_rows.specs.declared.opening.OpenFault.{OpenFault}
use Rattle.aq_rows.specs.declared.opening.OpenFault.TheVariants as opening
use Rattle.aq_keeper.specs.declared.keeper.KeeperFault.{KeeperFault}
use Rattle.aq_keeper.specs.declared.keeper.KeeperFault.TheVariants as keeper
use Rattle.aq_desk.specs.declared.body.BodyFault.{BodyFault}
use Rattle.aq_desk.specs.declared.body.BodyFault.TheVariants as fault
use Rattle.aq_desk.specs.declared.stop.Stop.{Stop}
use Rattle.aq_desk.specs.declared.stop.Stop.TheVariants.{InputFailed, OutputFailed, KeeperFailed, DoorFailed, Damaged, Memory, Conflict, TooManyBytes, TooManyLines, LoadsFull, Lacks, Refused}
use Rattle.aq_desk.specs.declared.status.TheConstants.{DONE, INPUT_FAILED, OUTPUT_FAILED, KEEPER_FAILED, DAMAGED, NO_MEMORY, CONFLICT, TOO_LARGE, LOADS_FULL, NO_SITE, NO_EVENT, NO_COMBINATION, NO_SITE_IN_AREA, NO_LOAD, LINE_REFUSED}

abbrev pub ending_at : Stop → Ending
ending_at InputFailed = input_failed
ending_at OutputFailed = output_failed
ending_at KeeperFailed = keeper_failed
ending_at DoorFailed = door_failed
ending_at (Damaged place) = damaged (record { table = place.table; index = place.index })
ending_at Memory = no_memory
ending_at (Conflict number kept sent) = conflict number kept sent
ending_at TooManyBytes = too_many_bytes
ending_at (TooManyLines lines) = too_many_lines lines
ending_at LoadsFull = loads_full
ending_at (Lacks what) = lacking (lack_of what)
ending_at (Refused line rule) = line_refused line rule

-- a command that was done, or stopped
abbrev pub ending_of : {A : Type 0} → Result A Stop → Ending
ending_of (Ok answer) = done
ending_of (Err stop) = ending_at stop

abbrev pub status_of : {A : Type 0} → Result A Stop → ℕ
status_of answer = (ending_of answer).status

abbrev pub stop_of : BodyFault → Stop
stop_of fault.InputFailed = InputFailed
stop_of fault.Memory = Memory
stop_of fault.TooManyBytes = TooManyBytes
stop_of (fault.TooManyLines lines) = TooManyLines lines

abbrev pub stop_of_keeper : KeeperFault → Stop
stop_of_keeper keeper.Failed = KeeperFailed
stop_of_keeper keeper.Memory = Memory

abbrev pub stop_of_book : OpenFault → Stop
stop_of_book (opening.Damaged place) = Damaged place
stop_of_book opening.Memory = Memory

-- what stops a command is what ends its outcome, unless it was cut short
abbrev pub EndsAs : {A : Type 0} → Outcome → Result A Stop → Type 0
EndsAs outcome answer = IsWhole (status_of answer) → ending_of answer ≡ outcome.ending

-- it does all of its printout, or, if it was cut short, a front of the output; the output fails only if there is something to write
pub record Obeys (printout : Printout) (answer : Result Unit Stop) (before after : SinkView) : Type 0 where
  pub ending : IsWhole (status_of answer) → ending_of answer ≡ printout.ending
  pub whole : IsWhole (status_of answer) → after.written ≡ option_map (λ bytes. bytes ++ printout.output) before.written
  pub front : WritesFront before.written after.written printout.output
  pub written : status_of answer ≡ OUTPUT_FAILED → 0 < length printout.output

-- the same of an outcome, with the tables
pub record Performs (outcome : Outcome) (answer : Result Unit Stop) (before after : SinkView) (tables_before tables_after : Option (List Row)) : Type 0 where
  pub obeys : Obeys (printout_of outcome) answer before after
  pub tables : Keeps outcome.rows (status_of answer) tables_before tables_after

-- the text of an outcome that has still to be printed, and its tables; or what stopped the command before its output failed
pub record Gives (outcome : Outcome) (answer : Result (List ℕ) Stop) (tables_before tables_after : Option (List Row)) : Type 0 where
  pub text : IfOk answer (λ text. text ≡ outcome.output)
  pub ending : IsWhole (status_of answer) → ending_of answer ≡ outcome.ending
  pub nothing : IsErr answer → IsWhole (status_of answer) → outcome.output ≡ []
  pub tables : Keeps outcome.rows (status_of answer) tables_before tables_after

-- the statuses of a command whose body was taken
abbrev pub IsTaken : ℕ → Type 0
IsTaken status = (status ≡ DONE) ⊎ (status ≡ OUTPUT_FAILED) ⊎ (status ≡ NO_MEMORY) ⊎ (status ≡ NO_SITE)

-- cut short while it printed: the output failed, or memory ran out
abbrev pub IsCutShort : Stop → Type 0
IsCutShort stop = ((ending_at stop).status ≡ OUTPUT_FAILED) ⊎ ((ending_at stop).status ≡ NO_MEMORY)

-- stopped before it printed: the office was not opened, the load not taken, or something is missing that a question asks for
abbrev pub IsUnprinted : Stop → Type 0
IsUnprinted stop =
    let status = (ending_at stop).status in
    (status ≡ KEEPER_FAILED) ⊎ (status ≡ DAMAGED) ⊎ (status ≡ NO_MEMORY) ⊎ (status ≡ CONFLICT) ⊎ (status ≡ LOADS_FULL) ⊎ (status ≡ NO_SITE) ⊎ (status ≡ NO_EVENT) ⊎ (status ≡ NO_COMBINATION) ⊎ (status ≡ NO_SITE_IN_AREA) ⊎ (status ≡ NO_LOAD) ⊎ (status ≡ LINE_REFUSED)

-- why it ended so: a count of faults rose
pub record HasCauses (status : ℕ) (input_before input_after : SourceView) (output_before output_after : SinkView) : Type 0 where
  pub input : RisesAt INPUT_FAILED status input_before.faults input_after.faults
  pub output : RisesAt OUTPUT_FAILED status output_before.faults output_after.faults

-- how much of its input a command read: at most one byte beyond the limit; all of it if the body was read to its end, within the limits; and with 10 all of it or one byte beyond the limit
pub record HasRead (status : ℕ) (before after : Option (List ℕ)) : Type 0 where
  pub read : List ℕ
  pub few : length read ≤ MOST_BYTES + 1
  pub front : before ≡ option_map (λ rest. read ++ rest) after
  pub whole : ReadsWhole status → IsAll after []
  pub beyond : status ≡ TOO_LARGE → IsAll after [] ⊎ (length read ≡ MOST_BYTES + 1)

-- the body is beyond the limits if a command ends with 10, and within them if one that reads it ends otherwise, having read it to its end
pub record IsMeasured (reads : Bool) (body : List ℕ) (status : ℕ) : Type 0 where
  pub too_many : status ≡ TOO_LARGE → is_within body ≡ false
  pub whole : reads ≡ true → ReadsWhole status → is_within body ≡ true
