-- How one connection is served, as the program does it: from the bytes that were read and are not answered.
use Rattle.std.specs.Prelude.{⊤, ◌≡◌, ℕ, ◌≤◌, ◌+◌, ◌<◌, ◌⊎◌, Bool, true, false, List, [], ◌∷◌, ◌++◌, length, take, drop, Option, Some, None, Result, Ok, Err}
use Rattle.aq_base.specs.Faults.{HasRisen}
use Rattle.aq_base.specs.declared.refusal.Memory.{Memory}
use Rattle.aq_rules.specs.Office.Office.{Office}
use Rattle.aq_http.specs.Head.{head_in, IsHeadStep}
use Rattle.aq_http.specs.Head as head
use Rattle.aq_http.specs.Places.{HeadPlaces}
use Rattle.aq_http.specs.declared.head.HeadStep.{HeadStep as ReadHead}
use Rattle.aq_http.specs.declared.head.HeadStep.TheVariants as read
use Rattle.aq_http.specs.Step.{IsStep, More, Refuse}
use Rattle.aq_outside.specs.Door.{Both, DoorView, Exchange, IsDry, IsSameDoor}
use Rattle.aq_keeper.specs.Standing.{AreOfOffice, Become, Keeps, Standing}
use Rattle.aq_serve.specs.Session.{AreTurns, IsCut, IsTurn, Turn, failed_commits, office_behind, replies}
use Rattle.aq_serve.specs.Serving.{HavePassed, IsPaid, IsVisit, Rises, Serves, Visit, World, faults_in}
use Rattle.aq_serve.specs.declared.limits.TheConstants.{MOST_REQUESTS}
use Rattle.aq_serve.specs.declared.ending.End.{End}
use Rattle.aq_serve.specs.declared.ending.End.TheVariants.{Whole, CutByRead, CutByWrite}
use Rattle.aq_serve.specs.declared.ending.ServeFault.{ServeFault}
use Rattle.aq_serve.specs.declared.fetch.FetchFault.{FetchFault}
use Rattle.aq_serve.specs.declared.fetch.FetchFault.TheVariants as fault

-- ---- reading

-- these bytes were read, and nothing else happened at the door
pub record Gets (got : List ℕ) (before after : DoorView) : Type 0 where
  pub wire : Exchange got [] before.wire after.wire
  pub door : IsSameDoor before after
  pub writes : after.writes ≡ before.writes

-- they stand after those that were read before
pub record Took (before after : DoorView) (pending now : List ℕ) : Type 0 where
  pub got : List ℕ
  pub gets : Gets got before after
  pub is : now ≡ pending ++ got

-- bytes were read until there was an answer, or until a read failed while more were wanted, or until there was no memory for them
pub record FetchedSo (P : Type 0) (before after : DoorView) (pending now : List ℕ) : Type 0 where
  pub took : Took before after pending now
  pub reads : after.reads ≡ before.reads
  pub answer : P

pub record FetchFailed (before after : DoorView) (pending now : List ℕ) : Type 0 where
  pub took : Took before after pending now
  pub reads : HasRisen before.reads after.reads
  pub more : IsStep now More

pub record FetchLost (before after : DoorView) : Type 0 where
  pub got : List ℕ
  pub gets : Gets got before after
  pub reads : after.reads ≡ before.reads

abbrev pub Fetches : {A : Type 0} → (A → Type 0) → DoorView → DoorView → List ℕ → List ℕ → Result A FetchFault → Type 0
Fetches P before after pending now (Ok answer) = FetchedSo (P answer) before after pending now
Fetches P before after pending now (Err fault.ReadFailed) = FetchFailed before after pending now
Fetches P before after pending now (Err fault.Memory) = FetchLost before after

-- one piece: so many bytes, none of them only if no byte is left, if they are told
pub record IsPiece (after : DoorView) (pending now : List ℕ) (n : ℕ) : Type 0 where
  pub grows : length now ≡ length pending + n
  pub same : n ≡ 0 → now ≡ pending
  pub end : n ≡ 0 → IsDry after.wire

-- a piece was read, or a read failed and took nothing, or there was no memory for it
pub record PieceFailed (before after : DoorView) (pending now : List ℕ) : Type 0 where
  pub took : Took before after pending now
  pub reads : HasRisen before.reads after.reads
  pub same : now ≡ pending

abbrev pub FetchesPiece : DoorView → DoorView → List ℕ → List ℕ → Result ℕ FetchFault → Type 0
FetchesPiece before after pending now (Ok n) = FetchedSo (IsPiece after pending now n) before after pending now
FetchesPiece before after pending now (Err fault.ReadFailed) = PieceFailed before after pending now
FetchesPiece before after pending now (Err fault.Memory) = FetchLost before after

-- the head is whole or refused, or the connection ends before
abbrev pub IsHeadBy : ReadHead → DoorView → List ℕ → Type 0
IsHeadBy read.More after now = IsHeadStep now head.More × IsDry after.wire
IsHeadBy (read.Refuse status) after now = IsHeadStep now (head.Refuse status)
IsHeadBy (read.Whole places) after now = IsHeadStep now (head.Whole (head_in now places))

-- a head was read from the first of these bytes, and its request is whole
pub record IsWholeRequest (now : List ℕ) (places : HeadPlaces) : Type 0 where
  pub front : List ℕ
  pub more : List ℕ
  pub is : now ≡ front ++ more
  pub stands : IsHeadStep front (head.Whole (head_in front places))
  pub within : places.head_bytes + places.body_bytes ≤ length now

-- the same of the request
abbrev pub IsRequestBy : ReadHead → DoorView → List ℕ → Type 0
IsRequestBy read.More after now = IsStep now More × IsDry after.wire
IsRequestBy (read.Refuse status) after now = IsStep now (Refuse status)
IsRequestBy (read.Whole places) after now = IsWholeRequest now places

-- ---- writing

-- all of a text was written, and nothing else happened at the door
pub record SentAll (text : List ℕ) (before after : DoorView) : Type 0 where
  pub wire : Exchange [] text before.wire after.wire
  pub door : IsSameDoor before after
  pub reads : after.reads ≡ before.reads
  pub writes : after.writes ≡ before.writes

-- a write failed, and a part of the text had been written
pub record SentPart (text : List ℕ) (before after : DoorView) : Type 0 where
  pub count : ℕ
  pub short : count < length text
  pub wire : Exchange [] (take count text) before.wire after.wire
  pub door : IsSameDoor before after
  pub reads : after.reads ≡ before.reads
  pub writes : HasRisen before.writes after.writes

abbrev pub Sends : {A E : Type 0} → List ℕ → DoorView → DoorView → Result A E → Type 0
Sends text before after (Ok nothing) = SentAll text before after
Sends text before after (Err fault) = SentPart text before after

-- ---- answering

-- a reply to the first request of these bytes, whatever bytes come after; so many of them are answered
pub record Replies (served : ℕ) (input : List ℕ) (bytes : List ℕ) (used : ℕ) (closes : Bool) (before after : Standing) : Type 0 where
  pub turn : Turn
  pub is : (more : List ℕ) → IsTurn served before.office (input ++ more) turn
  pub bytes_are : bytes ≡ turn.reply
  pub used_are : used ≡ turn.used
  pub closes_so : closes ≡ turn.closes
  pub within : used ≤ length input
  pub few : closes ≡ false → served + 1 < MOST_REQUESTS
  pub office : after.office ≡ turn.office
  pub tables : Keeps before after
  pub faults : Rises before.faults after.faults (failed_commits (turn ∷ []))

-- memory was not to be had for it: the tables are as before, or those after the request
pub record RepliesNot (served : ℕ) (input : List ℕ) (before after : Standing) : Type 0 where
  pub turn : Turn
  pub is : IsTurn served before.office input turn
  pub faults : Rises before.faults after.faults 0
  pub tables : AreOfOffice before → Become before before.office after ⊎ Become before turn.office after

-- a reply was sent, whole or in part, and the connection goes on or has ended
abbrev pub SentBy : Option End → Bool → List ℕ → DoorView → DoorView → Type 0
SentBy None closes text before after = (closes ≡ false) × SentAll text before after
SentBy (Some Whole) closes text before after = (closes ≡ true) × SentAll text before after
SentBy (Some CutByRead) closes text before after = ⊥
SentBy (Some CutByWrite) closes text before after = SentPart text before after

-- ---- serving

abbrev pub Session : ℕ → Office → List ℕ → List Turn → Type 0
Session served office input turns = AreTurns (λ rest. IsStep rest More) served office input turns

abbrev pub Front : ℕ → Office → List ℕ → List Turn → Type 0
Front served office input turns = AreTurns (λ rest. ⊤) served office input turns

-- one request was read and answered, and its reply sent whole
pub record Advances (served : ℕ) (before after : World) (pending now : List ℕ) : Type 0 where
  pub got : List ℕ
  pub turn : Turn
  pub is : (more : List ℕ) → IsTurn served before.service.office ((pending ++ got) ++ more) turn
  pub within : turn.used ≤ length (pending ++ got)
  pub goes_on : turn.closes ≡ false
  pub few : served + 1 < MOST_REQUESTS
  pub wire : Exchange got turn.reply before.door.wire after.door.wire
  pub door : IsSameDoor before.door after.door
  pub reads : after.door.reads ≡ before.door.reads
  pub writes : after.door.writes ≡ before.door.writes
  pub is_left : now ≡ drop turn.used (pending ++ got)
  pub office : after.service.office ≡ turn.office
  pub tables : Keeps before.service after.service
  pub faults : Rises before.service.faults after.service.faults (failed_commits (turn ∷ []))

-- no byte is left, or none that may follow changes anything
abbrev pub IsAll : ℕ → Office → List ℕ → List Turn → DoorView → Type 0
IsAll served office input turns door = IsDry door.wire ⊎ ((more : List ℕ) → Session served office (input ++ more) turns)

pub record TalksWhole (served : ℕ) (before after : World) (input sent : List ℕ) (turns : List Turn) : Type 0 where
  pub session : Session served before.service.office input turns
  pub whole : IsAll served before.service.office input turns after.door
  pub all : sent ≡ replies turns
  pub reads : after.door.reads ≡ before.door.reads
  pub writes : after.door.writes ≡ before.door.writes
  pub office : after.service.office ≡ office_behind before.service.office turns
  pub tables : Keeps before.service after.service

pub record TalksToRead (served : ℕ) (before after : World) (input sent : List ℕ) (turns : List Turn) : Type 0 where
  pub session : Session served before.service.office input turns
  pub all : sent ≡ replies turns
  pub reads : HasRisen before.door.reads after.door.reads
  pub writes : after.door.writes ≡ before.door.writes
  pub office : after.service.office ≡ office_behind before.service.office turns
  pub tables : Keeps before.service after.service

pub record TalksToWrite (served : ℕ) (before after : World) (input sent : List ℕ) (turns : List Turn) : Type 0 where
  pub front : Front served before.service.office input turns
  pub cut : IsCut sent turns
  pub reads : after.door.reads ≡ before.door.reads
  pub writes : HasRisen before.door.writes after.door.writes
  pub office : after.service.office ≡ office_behind before.service.office turns
  pub tables : Keeps before.service after.service

-- the tables are those after these turns, or after one more
pub record Stores (served : ℕ) (office : Office) (input : List ℕ) (turns : List Turn) (before after : Standing) : Type 0 where
  pub more : List Turn
  pub one : length more ≤ 1
  pub front : Front served office input (turns ++ more)
  pub tables : Become before (office_behind office (turns ++ more)) after

pub record TalksToLoss (served : ℕ) (before after : World) (input sent : List ℕ) (turns : List Turn) : Type 0 where
  pub front : Front served before.service.office input turns
  pub all : sent ≡ replies turns
  pub reads : after.door.reads ≡ before.door.reads
  pub writes : after.door.writes ≡ before.door.writes
  pub tables : AreOfOffice before.service → Stores served before.service.office input turns before.service after.service

abbrev pub TalksBy : Result End Memory → ℕ → World → World → List ℕ → List ℕ → List Turn → Type 0
TalksBy (Ok Whole) served before after input sent turns = TalksWhole served before after input sent turns
TalksBy (Ok CutByRead) served before after input sent turns = TalksToRead served before after input sent turns
TalksBy (Ok CutByWrite) served before after input sent turns = TalksToWrite served before after input sent turns
TalksBy (Err memory) served before after input sent turns = TalksToLoss served before after input sent turns

-- a connection is served to its end, so many requests having been served on it before, and these bytes read and not answered
pub record Talks (served : ℕ) (before after : World) (pending : List ℕ) (end : Result End Memory) : Type 0 where
  pub got : List ℕ
  pub sent : List ℕ
  pub turns : List Turn
  pub wire : Exchange got sent before.door.wire after.door.wire
  pub door : IsSameDoor before.door after.door
  pub faults : Rises before.service.faults after.service.faults (failed_commits turns)
  pub ends : TalksBy end served before after (pending ++ got) sent turns

-- one turn of the loop: the connection goes on, or has ended
abbrev pub TakesTurn : ℕ → World → World → List ℕ → List ℕ → Result (Option End) Memory → Type 0
TakesTurn served before after pending now (Ok None) = Advances served before after pending now
TakesTurn served before after pending now (Ok (Some end)) = Talks served before after pending (Ok end)
TakesTurn served before after pending now (Err memory) = Talks served before after pending (Err memory)

-- ---- connections

-- a connection was accepted, served and finished
pub record Visited (before after : World) : Type 0 where
  pub visit : Visit
  pub is : IsVisit before.service.office visit
  pub wire : Both (HavePassed (visit ∷ [])) before.door.wire after.door.wire
  pub door : IsSameDoor before.door after.door
  pub office : after.service.office ≡ office_behind before.service.office visit.turns
  pub tables : Keeps before.service after.service
  pub begins : visit.before ≡ faults_in before
  pub paid : IsPaid visit
  pub finishes : visit.after ≡ faults_in after

abbrev pub ServesNext : World → World → Result Bool ServeFault → Type 0
ServesNext before after (Ok true) = Visited before after
ServesNext before after (Ok false) = (n : ℕ) → Serves n before after (Ok tt)
ServesNext before after (Err fault) = (n : ℕ) → 0 < n → Serves n before after (Err fault)
