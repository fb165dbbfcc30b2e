-- What contracts see of a door: the connections that it tells or does not tell, what it is ready for, and its counts of faults (own).
use Rattle.std.specs.Prelude.{⊤, ◌≡◌, ℕ, ◌<◌, ◌≤◌, Bool, true, false, List, [], ◌∷◌, ◌++◌, length, take, Option, Some, None, IfSome, Result, Ok, Err}
use Rattle.aq_base.specs.Faults.{HasRisen, next}

-- one connection: the bytes that are left to be read, and those that were written
pub record Line : Type 0 where
  pub left : List ℕ
  pub written : List ℕ

-- a finished connection, and the counts of `read` and of `write` as it was finished
pub record EndedLine : Type 0 where
  pub line : Line
  pub reads : ℕ
  pub writes : ℕ

-- the bytes of each connection still to come, the accepted connection, and those that are finished; if none is accepted, `line` means nothing
pub record Wire : Type 0 where
  pub coming : List (List ℕ)
  pub line : Line
  pub past : List EndedLine

-- a door: the port on which it listens, or none yet; a connection is accepted and not finished, or none is; a count for `listen` and `accept`, one for `read`, and one for `write`
pub record DoorView : Type 0 where
  pub wire : Option Wire
  pub listens : Option ℕ
  pub is_open : Bool
  pub accepts : ℕ
  pub reads : ℕ
  pub writes : ℕ

-- both are told, and stand in this relation, or neither is told
abbrev pub Both : {A : Type 0} → (A → A → Type 0) → Option A → Option A → Type 0
Both R None None = ⊤
Both R None (Some after) = ⊥
Both R (Some before) None = ⊥
Both R (Some before) (Some after) = R before after

-- ---- what a call does

-- the next connection is taken, and nothing is written on it yet
pub record TakesNext (before after : Wire) : Type 0 where
  pub coming : before.coming ≡ after.line.left ∷ after.coming
  pub written : after.line.written ≡ []
  pub past : after.past ≡ before.past

-- there is no further connection
pub record Nobody (before after : Wire) : Type 0 where
  pub none : before.coming ≡ []
  pub same : after ≡ before

-- a connection is accepted, or there is no further one
pub record IsAcceptedNow (before after : DoorView) : Type 0 where
  pub wire : Both TakesNext before.wire after.wire
  pub is_open : after.is_open ≡ true

pub record IsIdle (before after : DoorView) : Type 0 where
  pub wire : Both Nobody before.wire after.wire
  pub is_open : after.is_open ≡ false

abbrev pub IsAccepted : Bool → DoorView → DoorView → Type 0
IsAccepted true before after = IsAcceptedNow before after
IsAccepted false before after = IsIdle before after

-- these bytes were taken from the front of what is left, and those went after what was written
pub record Passes (got sent : List ℕ) (before after : Wire) : Type 0 where
  pub left : before.line.left ≡ got ++ after.line.left
  pub written : after.line.written ≡ before.line.written ++ sent
  pub coming : after.coming ≡ before.coming
  pub past : after.past ≡ before.past

-- the connection is put after those that are finished, with these counts
pub record Ends (reads writes : ℕ) (before after : Wire) : Type 0 where
  pub coming : after.coming ≡ before.coming
  pub past : after.past ≡ before.past ++ record { line = before.line; reads = reads; writes = writes } ∷ []

-- the same with the counts as they stand
abbrev pub IsFinished : DoorView → DoorView → Type 0
IsFinished before after = Both (Ends before.reads before.writes) before.wire after.wire

abbrev pub Exchange : List ℕ → List ℕ → Option Wire → Option Wire → Type 0
Exchange got sent before after = Both (Passes got sent) before after

-- no byte is left, if they are told
abbrev pub IsDry : Option Wire → Type 0
IsDry wire = IfSome wire (λ (w : Wire). w.line.left ≡ [])

-- the first n bytes that were left went into the buffer; none of a buffer with room is the end, and comes only there
pub record Reads (before after : DoorView) (buffer : List ℕ) (n : ℕ) : Type 0 where
  pub within : n ≤ length buffer
  pub moved : Exchange (take n buffer) [] before.wire after.wire
  pub end : n ≡ 0 → 0 < length buffer → IsDry before.wire

-- the first n bytes of a piece went after what was written; of a piece with bytes at least one
pub record Writes (before after : DoorView) (piece : List ℕ) (n : ℕ) : Type 0 where
  pub within : n ≤ length piece
  pub moved : Exchange [] (take n piece) before.wire after.wire
  pub some : 0 < length piece → 0 < n

-- ---- what a call leaves

-- it listens and is open as before, and this many faults of `listen` and `accept` are counted
pub record IsSameDoor (before after : DoorView) : Type 0 where
  pub listens : after.listens ≡ before.listens
  pub is_open : after.is_open ≡ before.is_open
  pub accepts : after.accepts ≡ before.accepts

-- a read or a write is no business of `listen` and `accept`, and they are none of theirs
pub record HasSameTransfers (before after : DoorView) : Type 0 where
  pub reads : after.reads ≡ before.reads
  pub writes : after.writes ≡ before.writes

-- a count rises at a call that answers with a fault, and at no other
abbrev pub HasCause : {A E : Type 0} → ℕ → ℕ → Result A E → Type 0
HasCause before after (Ok answer) = after ≡ before
HasCause before after (Err fault) = HasRisen before after

-- how many faults are counted after a call: one more if it answers with a fault, and else as many as before
abbrev pub faults_after : {A E : Type 0} → ℕ → Result A E → ℕ
faults_after before (Ok answer) = before
faults_after before (Err fault) = next before
