-- What the program does for its words, the keeper's tables and its input (own).
use Rattle.std.specs.Prelude.{◌≡◌, ◌↔◌, ◌⊎◌, ℕ, ◌++◌, Bool, true, false, List, Option, Some, None, IfSome, IsNone, IsSome, Result}
use Rattle.std.specs.Option.{option_map}
use Rattle.aq_base.specs.Faults.{HasRisen}
use Rattle.aq_keeper.specs.Told.{KeeperView, told_through}
use Rattle.aq_rules.specs.Kept.Rows.{Row}
use Rattle.aq_words.specs.declared.words.Command.{Command}
use Rattle.aq_words.specs.declared.words.Command.TheVariants.{Scan, Load, Draft as OfDraft, Serve, Simulate}
use Rattle.aq_words.specs.declared.words.Command.TheVariants as command
use Rattle.aq_desk.specs.Ask.{ask_outcome, ask_printout}
use Rattle.aq_desk.specs.Command.{BecomeRows, Follows, IsStatus, Outcome, RisesAt, Tells, WritesNothing, leaving, message_for, unwritten}
use Rattle.aq_desk.specs.Draft.{draft_outcome}
use Rattle.aq_desk.specs.Ending.{no_command}
use Rattle.aq_desk.specs.Load.{load_outcome}
use Rattle.aq_desk.specs.Office.{OnlyMigrates}
use Rattle.aq_outside.specs.Door.{DoorView}
use Rattle.aq_outside.specs.Outside.{IsAll, SinkView, SourceView}
use Rattle.aq_desk.specs.Scan.{scan_outcome}
use Rattle.aq_desk.specs.Serve.{Around, HasServed, Hosting, around_of, serve_outcome}
use Rattle.aq_desk.specs.Simulate.{simulate_outcome}
use Rattle.aq_desk.specs.Stop.{EndsAs, HasRead, IsMeasured, Performs, status_of}
use Rattle.aq_desk.specs.declared.stop.Stop.{Stop}
use Rattle.aq_desk.specs.declared.status.TheConstants.{DOOR_FAILED, INPUT_FAILED, KEEPER_FAILED, NO_COMMAND, OUTPUT_FAILED}

-- what a command gives over the tables' rows and an input; what `serve` does at the door is said separately
abbrev pub outcome_of : Command → List Row → List ℕ → Outcome
outcome_of (Scan site day) rows body = leaving rows (scan_outcome site day body)
outcome_of (Load number) rows body = load_outcome number rows body
outcome_of (OfDraft draft) rows body = draft_outcome draft rows body
outcome_of (command.Ask question) rows body = ask_outcome (ask_printout question) rows
outcome_of (Serve port connections) rows body = serve_outcome rows
outcome_of (Simulate start sites years) rows body = leaving rows (simulate_outcome start sites years)

-- the same for words that may be no command
abbrev pub outcome_for : Option Command → List Row → List ℕ → Outcome
outcome_for None rows body = leaving rows (unwritten no_command)
outcome_for (Some command) rows body = outcome_of command rows body

-- ---- what a command uses

abbrev pub reads_input : Command → Bool
reads_input (Scan site day) = true
reads_input (Load number) = true
reads_input (OfDraft draft) = true
reads_input (command.Ask question) = false
reads_input (Serve port connections) = false
reads_input (Simulate start sites years) = false

abbrev pub uses_keeper : Command → Bool
uses_keeper (Scan site day) = false
uses_keeper (Load number) = true
uses_keeper (OfDraft draft) = true
uses_keeper (command.Ask question) = true
uses_keeper (Serve port connections) = true
uses_keeper (Simulate start sites years) = false

abbrev pub writes_output : Command → Bool
writes_output (Scan site day) = true
writes_output (Load number) = true
writes_output (OfDraft draft) = true
writes_output (command.Ask question) = true
writes_output (Serve port connections) = false
writes_output (Simulate start sites years) = true

-- the commands of which no load comes: a question, and what an input would make
abbrev pub asks : Command → Bool
asks (Scan site day) = false
asks (Load number) = false
asks (OfDraft draft) = true
asks (command.Ask question) = true
asks (Serve port connections) = false
asks (Simulate start sites years) = false

-- words that are no command use nothing
abbrev pub uses : (Command → Bool) → Option Command → Bool
uses test None = false
uses test (Some command) = test command

-- what the one command that serves asks for
abbrev pub hosting_in : Command → Option Hosting
hosting_in (Scan site day) = None
hosting_in (Load number) = None
hosting_in (OfDraft draft) = None
hosting_in (command.Ask question) = None
hosting_in (Serve port connections) = Some (record { port = port; connections = connections })
hosting_in (Simulate start sites years) = None

abbrev pub hosting_for : Option Command → Option Hosting
hosting_for None = None
hosting_for (Some command) = hosting_in command

-- the keeper's count rose if a run ends with 5; it is as before if one ends otherwise, unless connections were served
pub record KeeperRises (asked : Option Hosting) (status before after : ℕ) : Type 0 where
  pub rises : status ≡ KEEPER_FAILED → HasRisen before after
  pub stays : IsNone asked → (status ≡ KEEPER_FAILED → ⊥) → after ≡ before

-- ---- what a run does

-- what is around a run: the door, the keeper, the input, the output, and the errors stream
pub record Surroundings : Type 0 where
  pub door : DoorView
  pub keeper : KeeperView
  pub input : SourceView
  pub output : SinkView
  pub errors : SinkView

-- what serving may change of it
abbrev pub around_in : Surroundings → Around
around_in surroundings = around_of surroundings.door surroundings.keeper

-- The headline. All of a run is said over the same rows and the same body: over the rows of the tables, if these are told throughout, and the bytes of the input, if these are told; and else over some.
pub record Runs (command : Option Command) (status : ℕ) (before after : Surroundings) : Type 0 where
  pub rows : List Row
  pub body : List ℕ
  pub are_told : IsAll (told_through before.keeper.tables after.keeper.tables) rows
  pub is_told : IsAll before.input.left body
  -- of a command that prints, what is answered and written, and the tables after it, are what its definition gives
  pub prints : IsNone (hosting_for command) → Follows (outcome_for command rows body) status before.output after.output before.keeper.tables after.keeper.tables
  -- of the one that serves, the replies are those of each connection's session, and the tables after it those of the last office
  pub serves : IfSome (hosting_for command) (λ asked. HasServed asked rows status (around_in before) (around_in after))
  -- the message is that of the status: of a status that the definition gives, the definition's
  pub tells : Tells (message_for (outcome_for command rows body) status) before.errors after.errors
  -- a body of too many bytes or lines, and no other, ends with 10, unless the input or memory failed first
  pub measured : IsMeasured (uses reads_input command) body status

-- why a run ended so
pub record HasReasons (command : Option Command) (status : ℕ) (before after : Surroundings) : Type 0 where
  pub statuses : IsStatus status
  pub no_command : (status ≡ NO_COMMAND) ↔ IsNone command
  -- a count of faults rose, and with any other status it is as before
  pub input_failed : RisesAt INPUT_FAILED status before.input.faults after.input.faults
  pub output_failed : RisesAt OUTPUT_FAILED status before.output.faults after.output.faults
  pub keeper_failed : KeeperRises (hosting_for command) status before.keeper.faults after.keeper.faults
  pub door_failed : RisesAt DOOR_FAILED status before.door.accepts after.door.accepts
  pub only_serve : status ≡ DOOR_FAILED → IsSome (hosting_for command)
  -- how much of its input it read
  pub read : uses reads_input command ≡ true → HasRead status before.input.left after.input.left
  -- a question, and a command that says what an input would make, commits nothing but a migration
  pub only_migrates : uses asks command ≡ true → OnlyMigrates before.keeper after.keeper

-- What a run is, of what it is handed: the keeper, the door, the input and the output, before it and after it. It is the clause of `run` and of the programs.
pub record IsRun {K D S O : Type 0} (command : Option Command) (status : ℕ) (before after : Surroundings) (keeper later_keeper : K) (door later_door : D) (input later_input : S) (output later_output : O) : Type 0 where
  pub headline : Runs command status before after
  pub reasons : HasReasons command status before after
  pub silent : WritesNothing status → later_output ≡ output
  -- a command that prints has let the keeper's tables go when anything is written on the output, so whoever takes nothing of it keeps no other command from them
  pub gone : uses uses_keeper command ≡ true → IsNone (hosting_for command) → (later_output ≡ output) ⊎ (after.keeper.is_held ≡ false)
  -- what the command does not use stays as it was
  pub unused_input : uses reads_input command ≡ false → later_input ≡ input
  pub unused_keeper : uses uses_keeper command ≡ false → later_keeper ≡ keeper
  pub unused_output : uses writes_output command ≡ false → later_output ≡ output
  pub unused_door : IsNone (hosting_for command) → later_door ≡ door

-- ---- where nothing fails

-- no count of the input, the output, the keeper and the door rose
pub record AreFaultless (before after : Surroundings) : Type 0 where
  pub input : HasRisen before.input.faults after.input.faults → ⊥
  pub output : HasRisen before.output.faults after.output.faults → ⊥
  pub keeper : HasRisen before.keeper.faults after.keeper.faults → ⊥
  pub accepts : HasRisen before.door.accepts after.door.accepts → ⊥
  pub reads : HasRisen before.door.reads after.door.reads → ⊥
  pub writes : HasRisen before.door.writes after.door.writes → ⊥

-- a command did all that its definition gives: its status, its whole output, and its tables
pub record IsComplete (outcome : Outcome) (status : ℕ) (before after : Surroundings) : Type 0 where
  pub ended : status ≡ outcome.ending.status
  pub written : after.output.written ≡ option_map (λ bytes. bytes ++ outcome.output) before.output.written
  pub tables : BecomeRows outcome.rows before.keeper.tables after.keeper.tables

-- the same of a command, before anything is said of it
pub record Acts (command : Command) (answer : Result Unit Stop) (left : Option (List ℕ)) (output_before output_after : SinkView) (before after : Around) : Type 0 where
  pub rows : List Row
  pub body : List ℕ
  pub are_told : IsAll (told_through before.tables after.tables) rows
  pub is_told : IsAll left body
  pub performs : IsNone (hosting_in command) → Performs (outcome_of command rows body) answer output_before output_after before.tables after.tables
  pub serves : IfSome (hosting_in command) (λ asked. HasServed asked rows (status_of answer) before after)
  pub ends : EndsAs (outcome_of command rows body) answer
  pub measured : IsMeasured (reads_input command) body (status_of answer)
