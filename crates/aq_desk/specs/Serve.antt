-- The command `serve --port P --connections N`: connections are served over the office of the tables (own).
use Rattle.std.specs.Prelude.{◌≡◌, ℕ, ◌⊎◌, List, Option, Some, None, Result, Ok, Err}
use Rattle.std.specs.Option.{option_map}
use Rattle.aq_base.specs.Faults.{HasRisen}
use Rattle.aq_keeper.specs.Told.{KeeperView, Stays}
use Rattle.aq_rules.specs.Kept.Migration.{opening_damage}
use Rattle.aq_rules.specs.Kept.Rows.{Row, office_in, rows_of}
use Rattle.aq_rules.specs.Office.Office.{Office}
use Rattle.aq_outside.specs.Door.{DoorView}
use Rattle.aq_keeper.specs.Standing.{AreOfOffice, Standing}
use Rattle.aq_serve.specs.Serving.{Serves}
use Rattle.aq_serve.specs.declared.ending.ServeFault.{ServeFault}
use Rattle.aq_serve.specs.declared.ending.ServeFault.TheVariants.{DoorFailed, Memory}
use Rattle.aq_desk.specs.Command.{AtMostOpened, Outcome, RisesAt, leaving, opened_rows, unwritten}
use Rattle.aq_desk.specs.Ending.{done}
use Rattle.aq_desk.specs.Office.{over_office}
use Rattle.aq_desk.specs.declared.stop.Stop.{Stop}
use Rattle.aq_desk.specs.declared.stop.Stop.TheVariants as stops
use Rattle.aq_desk.specs.declared.status.TheConstants.{DONE, KEEPER_FAILED, DAMAGED, NO_MEMORY, DOOR_FAILED}

-- nothing is printed; what is served is told by the door
unfoldable pub serve_outcome : List Row → Outcome
serve_outcome rows = over_office rows (λ office. leaving (rows_of office) (unwritten done))

-- what serving may change: the door, and what the keeper tells
pub record Around : Type 0 where
  pub door : DoorView
  pub tables : Option (List Row)
  pub faults : ℕ

-- a door and a keeper that are seen so
abbrev pub around_of : DoorView → KeeperView → Around
around_of door keeper = record { door = door; tables = keeper.tables; faults = keeper.faults }

-- the same with these tables
abbrev pub holding : Option (List Row) → Around → Around
holding tables around = record { door = around.door; tables = tables; faults = around.faults }

-- the same with the office that is served
abbrev pub serving : Office → Around → Standing
serving office around = record { office = office; tables = around.tables; faults = around.faults }

-- what is asked for: the port, and how many connections are served at most
pub record Hosting : Type 0 where
  pub port : ℕ
  pub connections : ℕ

-- the door listens on the port, and is otherwise as it was
pub record IsListening (port : ℕ) (before after : DoorView) : Type 0 where
  pub listens : after.listens ≡ Some port
  pub wire : after.wire ≡ before.wire
  pub is_open : after.is_open ≡ before.is_open
  pub accepts : after.accepts ≡ before.accepts
  pub reads : after.reads ≡ before.reads
  pub writes : after.writes ≡ before.writes

-- no connection was accepted: the office was not opened, memory ran out, or the door did not listen, which comes after the migration
pub record IsUnserved (rows : List Row) (status : ℕ) (before after : Around) : Type 0 where
  pub ended : (status ≡ KEEPER_FAILED) ⊎ (status ≡ DAMAGED) ⊎ (status ≡ NO_MEMORY) ⊎ (status ≡ DOOR_FAILED)
  pub damaged : status ≡ DAMAGED → opening_damage rows ≡ None → ⊥
  pub undamaged : status ≡ DOOR_FAILED → opening_damage rows ≡ None
  pub wire : after.door.wire ≡ before.door.wire
  pub unopened : (status ≡ KEEPER_FAILED) ⊎ (status ≡ DAMAGED) → Stays before.tables after.tables
  pub opened : status ≡ DOOR_FAILED → Stays (option_map opened_rows before.tables) after.tables
  pub tables : AtMostOpened before.tables after.tables
  pub faults : RisesAt KEEPER_FAILED status before.faults after.faults
  pub accepts : RisesAt DOOR_FAILED status before.door.accepts after.door.accepts
  pub reads : after.door.reads ≡ before.door.reads
  pub writes : after.door.writes ≡ before.door.writes

-- the exit status with which serving ends
abbrev pub status_served : Result Unit ServeFault → ℕ
status_served (Ok nothing) = DONE
status_served (Err DoorFailed) = DOOR_FAILED
status_served (Err Memory) = NO_MEMORY

-- connections were served over the office of the tables, once it was opened; these then are its own, if they are told still
pub record IsServed (asked : Hosting) (rows : List Row) (status : ℕ) (before after : Around) : Type 0 where
  pub undamaged : opening_damage rows ≡ None
  pub opened : Option (List Row)
  pub tables : Stays (option_map opened_rows before.tables) opened
  pub of_office : AreOfOffice (serving (office_in (opened_rows rows)) (holding opened before))
  pub listening : DoorView
  pub listens : IsListening asked.port before.door listening
  pub office : Office
  pub ending : Result Unit ServeFault
  pub ended : status ≡ status_served ending
  pub serves : Serves asked.connections (record { door = listening; service = serving (office_in (opened_rows rows)) (holding opened before) }) (record { door = after.door; service = serving office after }) ending

abbrev pub HasServed : Hosting → List Row → ℕ → Around → Around → Type 0
HasServed asked rows status before after = IsUnserved rows status before after ⊎ IsServed asked rows status before after

-- ---- over an office that is opened

-- what stops the command when serving ends
abbrev pub stop_served : Result Unit ServeFault → Result Unit Stop
stop_served (Ok nothing) = Ok nothing
stop_served (Err DoorFailed) = Err stops.DoorFailed
stop_served (Err Memory) = Err stops.Memory

-- the door did not listen
pub record CannotListen (before after : Around) (answer : Result Unit Stop) : Type 0 where
  pub stopped : answer ≡ Err stops.DoorFailed
  pub wire : after.door.wire ≡ before.door.wire
  pub tables : after.tables ≡ before.tables
  pub faults : after.faults ≡ before.faults
  pub accepts : HasRisen before.door.accepts after.door.accepts
  pub reads : after.door.reads ≡ before.door.reads
  pub writes : after.door.writes ≡ before.door.writes

-- it did, and connections were served
pub record HasListened (asked : Hosting) (office : Office) (before after : Around) (answer : Result Unit Stop) : Type 0 where
  pub listening : DoorView
  pub listens : IsListening asked.port before.door listening
  pub left : Office
  pub ending : Result Unit ServeFault
  pub stopped : answer ≡ stop_served ending
  pub serves : Serves asked.connections (record { door = listening; service = serving office before }) (record { door = after.door; service = serving left after }) ending

abbrev pub HasAttended : Hosting → Office → Around → Around → Result Unit Stop → Type 0
HasAttended asked office before after answer = CannotListen before after answer ⊎ HasListened asked office before after answer
