-- What a command is: how it ends, what it writes, and what it leaves in the keeper's tables, over its words, these tables and its input; and what a run may do with it (own).
use Rattle.std.specs.Prelude.{◌≡◌, ℕ, ◌<◌, ◌⊎◌, ◌==◌, if◌then◌else◌, List, [], ◌++◌, length, Option}
use Rattle.std.specs.Option.{option_map}
use Rattle.aq_keeper.specs.Told.{Stays}
use Rattle.aq_rules.specs.Kept.Migration.{are_version_1, migrated}
use Rattle.aq_rules.specs.Kept.Rows.{Row}
use Rattle.aq_desk.specs.Ending.{Ending, done, input_failed, output_failed, keeper_failed, door_failed, no_memory}
use Rattle.aq_base.specs.Faults.{HasRisen}
use Rattle.aq_desk.specs.Writing.{WritesFront}
use Rattle.aq_outside.specs.Outside.{SinkView}
use Rattle.aq_desk.specs.declared.status.TheConstants.{DONE, NO_COMMAND, INPUT_FAILED, OUTPUT_FAILED, KEEPER_FAILED, DAMAGED, NO_MEMORY, DOOR_FAILED, CONFLICT, TOO_LARGE, LOADS_FULL, NO_SITE, NO_EVENT, NO_COMBINATION, NO_SITE_IN_AREA, NO_LOAD, LINE_REFUSED}

-- how a command ends, and what it writes on the output
pub record Printout : Type 0 where
  pub ending : Ending
  pub output : List ℕ

-- a command that writes nothing
abbrev pub unwritten : Ending → Printout
unwritten ending = record { ending = ending; output = [] }

-- one that prints a text, and has then done all
abbrev pub printed : List ℕ → Printout
printed text = record { ending = done; output = text }

-- a text, and then what else a command writes
abbrev pub after_text : List ℕ → Printout → Printout
after_text text printout = record { ending = printout.ending; output = text ++ printout.output }

-- what a command gives, with no fault: how it ends, what it writes on the output, and the rows of the tables after it
pub record Outcome : Type 0 where
  pub ending : Ending
  pub output : List ℕ
  pub rows : List Row

abbrev pub printout_of : Outcome → Printout
printout_of outcome = record { ending = outcome.ending; output = outcome.output }

-- with these rows in the tables
abbrev pub leaving : List Row → Printout → Outcome
leaving rows printout = record { ending = printout.ending; output = printout.output; rows = rows }

-- ---- what a run may do with it

-- the statuses of a run that did all of its command; the others are those of one that was cut short
abbrev pub IsWhole : ℕ → Type 0
IsWhole status = (status ≡ DONE) ⊎ (status ≡ NO_COMMAND) ⊎ (status ≡ DAMAGED) ⊎ (status ≡ CONFLICT) ⊎ (status ≡ TOO_LARGE) ⊎ (status ≡ LOADS_FULL) ⊎ (status ≡ NO_SITE) ⊎ (status ≡ NO_EVENT) ⊎ (status ≡ NO_COMBINATION) ⊎ (status ≡ NO_SITE_IN_AREA) ⊎ (status ≡ NO_LOAD) ⊎ (status ≡ LINE_REFUSED)

-- the statuses with which the tables are those of the command: it did all, or only its output failed
abbrev pub IsKept : ℕ → Type 0
IsKept status = IsWhole status ⊎ (status ≡ OUTPUT_FAILED)

-- the rows of the tables once the office is opened: those of version 1 are migrated
unfoldable pub opened_rows : List Row → List Row
opened_rows rows = if are_version_1 rows then migrated rows else rows

-- the tables, if they are told still, are as before, or, at most, as they are once the office is opened
abbrev pub AtMostOpened : Option (List Row) → Option (List Row) → Type 0
AtMostOpened before after = Stays before after ⊎ Stays (option_map opened_rows before) after

-- the tables, if they are told still, are these
abbrev pub BecomeRows : List Row → Option (List Row) → Option (List Row) → Type 0
BecomeRows rows before after = Stays (option_map (λ _. rows) before) after

-- the tables after a run, if they are told still: those of the command; if the input failed they are as before, and if the keeper did, as before the call that failed; and if memory ran out, one of these
pub record Keeps (rows : List Row) (status : ℕ) (before after : Option (List Row)) : Type 0 where
  pub kept : IsKept status → BecomeRows rows before after
  pub unread : status ≡ INPUT_FAILED → after ≡ before
  pub failed : status ≡ KEEPER_FAILED → AtMostOpened before after
  pub one : AtMostOpened before after ⊎ BecomeRows rows before after

-- a run does all of the command, or, if a count rose or memory ran out, a front of its output; the output fails only if there is something to write
pub record Follows (outcome : Outcome) (status : ℕ) (before after : SinkView) (tables_before tables_after : Option (List Row)) : Type 0 where
  pub answered : IsWhole status → status ≡ outcome.ending.status
  pub whole : IsWhole status → after.written ≡ option_map (λ bytes. bytes ++ outcome.output) before.written
  pub front : WritesFront before.written after.written outcome.output
  pub written : status ≡ OUTPUT_FAILED → 0 < length outcome.output
  pub tables : Keeps outcome.rows status tables_before tables_after

-- the message of a run with this status
abbrev pub message_for : Outcome → ℕ → List ℕ
message_for outcome status =
    if status == INPUT_FAILED then input_failed.message
    else (if status == OUTPUT_FAILED then output_failed.message
    else (if status == KEEPER_FAILED then keeper_failed.message
    else (if status == NO_MEMORY then no_memory.message
    else (if status == DOOR_FAILED then door_failed.message else outcome.ending.message))))

-- a message goes after what was written, all of it or, if the stream's count of faults rose, a front
pub record Tells (message : List ℕ) (before after : SinkView) : Type 0 where
  pub front : WritesFront before.written after.written message
  pub whole : HasRisen before.faults after.faults ⊎ (after.written ≡ option_map (λ bytes. bytes ++ message) before.written)

-- a count of faults rose if a run has this status, and with any other it is as before
pub record RisesAt (wanted status : ℕ) (before after : ℕ) : Type 0 where
  pub rises : status ≡ wanted → HasRisen before after
  pub stays : (status ≡ wanted → ⊥) → after ≡ before

-- the statuses that a run may have
abbrev pub IsStatus : ℕ → Type 0
IsStatus status = IsWhole status ⊎ (status ≡ INPUT_FAILED) ⊎ (status ≡ OUTPUT_FAILED) ⊎ (status ≡ KEEPER_FAILED) ⊎ (status ≡ NO_MEMORY) ⊎ (status ≡ DOOR_FAILED)

-- the statuses of a run that read its input to the end, within the limits, if its command reads it
abbrev pub ReadsWhole : ℕ → Type 0
ReadsWhole status = (status ≡ DONE) ⊎ (status ≡ OUTPUT_FAILED) ⊎ (status ≡ KEEPER_FAILED) ⊎ (status ≡ DAMAGED) ⊎ (status ≡ CONFLICT) ⊎ (status ≡ LOADS_FULL) ⊎ (status ≡ NO_SITE) ⊎ (status ≡ LINE_REFUSED)

-- the statuses of one that wrote nothing on the output
abbrev pub WritesNothing : ℕ → Type 0
WritesNothing status = (status ≡ NO_COMMAND) ⊎ (status ≡ INPUT_FAILED) ⊎ (status ≡ KEEPER_FAILED) ⊎ (status ≡ DAMAGED) ⊎ (status ≡ DOOR_FAILED) ⊎ (status ≡ CONFLICT) ⊎ (status ≡ TOO_LARGE) ⊎ (status ≡ LOADS_FULL) ⊎ (status ≡ NO_EVENT) ⊎ (status ≡ NO_COMBINATION) ⊎ (status ≡ NO_SITE_IN_AREA) ⊎ (status ≡ NO_LOAD) ⊎ (status ≡ LINE_REFUSED)
