-- What contracts see of the door in memory, which fails at the calls that it is told to.
use Rattle.std.specs.Prelude.{◌≡◌, ℕ, ◌-◌, Bool, false, cond, nat_le, List, [], ◌∷◌, length, map, take, drop, get_or, Option, Some}
use Rattle.aq_base.specs.Faults.{is_listed, next}
use Rattle.aq_outside.specs.Door.{DoorView, EndedLine, Line, Wire}

-- a connection: its bytes that are left, those that were written on it, how many there is room for, and the counts of `read` and of `write` as it was finished
pub record LineState : Type 0 where
  pub left : List ℕ
  pub written : List ℕ
  pub room : ℕ
  pub reads : ℕ
  pub writes : ℕ

-- All connections, and how many of them were accepted. The calls of `listen` and `accept` are numbered together, and those of `read` and `write`.
pub record DoorState : Type 0 where
  pub lines : List LineState
  pub accepted : ℕ
  pub listens : Option ℕ
  pub is_open : Bool
  pub failing_accepts : List ℕ
  pub failing_transfers : List ℕ
  pub accept_calls : ℕ
  pub transfer_calls : ℕ
  pub accepts : ℕ
  pub reads : ℕ
  pub writes : ℕ

abbrev pub no_line : LineState
no_line = record { left = []; written = []; room = 0; reads = 0; writes = 0 }

abbrev pub line_of : LineState → Line
line_of line = record { left = line.left; written = line.written }

abbrev pub ended_line_of : LineState → EndedLine
ended_line_of line = record { line = line_of line; reads = line.reads; writes = line.writes }

-- how many written bytes each connection has room for
abbrev pub rooms_of : DoorState → List ℕ
rooms_of door = map (λ (line : LineState). line.room) door.lines

-- how many connections are finished
abbrev pub finished : DoorState → ℕ
finished door = cond door.is_open (door.accepted - 1) door.accepted

-- the connection that was accepted last
abbrev pub current : DoorState → LineState
current door = get_or door.lines (door.accepted - 1) no_line

abbrev pub wire_of : DoorState → Wire
wire_of door = record {
  coming = map (λ (line : LineState). line.left) (drop door.accepted door.lines);
  line = line_of (current door);
  past = map ended_line_of (take (finished door) door.lines);
}

abbrev pub view_of : DoorState → DoorView
view_of door = record {
  wire = Some (wire_of door);
  listens = door.listens;
  is_open = door.is_open;
  accepts = door.accepts;
  reads = door.reads;
  writes = door.writes;
}

-- whether the next call of `listen` or `accept` is to fail, and whether the next one of `read` or `write` is
abbrev pub fails_to_accept : DoorState → Bool
fails_to_accept door = is_listed door.failing_accepts (next door.accept_calls)

abbrev pub fails_to_transfer : DoorState → Bool
fails_to_transfer door = is_listed door.failing_transfers (next door.transfer_calls)

-- From call to call: a call is counted once, the calls that fail stay listed, and each connection keeps its room. The other counts and lists stay as they are.
pub record KeepsLists (before after : DoorState) : Type 0 where
  pub failing_accepts : after.failing_accepts ≡ before.failing_accepts
  pub failing_transfers : after.failing_transfers ≡ before.failing_transfers
  pub rooms : rooms_of after ≡ rooms_of before

pub record CountsAccept (before after : DoorState) : Type 0 where
  pub lists : KeepsLists before after
  pub accept_calls : after.accept_calls ≡ next before.accept_calls
  pub transfer_calls : after.transfer_calls ≡ before.transfer_calls

pub record CountsTransfer (before after : DoorState) : Type 0 where
  pub lists : KeepsLists before after
  pub accept_calls : after.accept_calls ≡ before.accept_calls
  pub transfer_calls : after.transfer_calls ≡ next before.transfer_calls

pub record CountsNothing (before after : DoorState) : Type 0 where
  pub lists : KeepsLists before after
  pub accept_calls : after.accept_calls ≡ before.accept_calls
  pub transfer_calls : after.transfer_calls ≡ before.transfer_calls

-- whether a piece with bytes finds all room taken
abbrev pub finds_no_room : LineState → List ℕ → Bool
finds_no_room line [] = false
finds_no_room line (_ ∷ _) = nat_le line.room (length line.written)
