-- Connections that are served one after the other: what became of each, and how serving ends (own).
use Rattle.std.specs.Prelude.{◌≡◌, ℕ, ◌+◌, ◌-◌, ◌^◌, ◌<◌, ◌≤◌, ◌⊎◌, Bool, true, false, List, [], ◌∷◌, ◌++◌, length, map, IfSome, Option, Result, Ok, Err}
use Rattle.aq_base.specs.Faults.{HasRisen}
use Rattle.aq_rules.specs.Office.Office.{Office}
use Rattle.aq_outside.specs.Door.{Both, DoorView, EndedLine, Wire}
use Rattle.aq_keeper.specs.Standing.{AreOfOffice, Become, Keeps, Standing}
use Rattle.aq_serve.specs.Service.{Counts}
use Rattle.aq_serve.specs.Session.{IsCut, IsFront, IsSession, Turn, failed_commits, office_behind, replies}
use Rattle.aq_serve.specs.declared.ending.End.{End}
use Rattle.aq_serve.specs.declared.ending.End.TheVariants.{Whole, CutByRead, CutByWrite}
use Rattle.aq_serve.specs.declared.ending.ServeFault.{ServeFault}
use Rattle.aq_serve.specs.declared.ending.ServeFault.TheVariants.{DoorFailed, Memory}

-- a count goes up by so many at least, unless it stands at its greatest value
pub record Rises (before after n : ℕ) : Type 0 where
  pub grows : before ≤ after
  pub many : after < 2 ^ 64 - 1 → before + n ≤ after

-- counts of faults: those of `read`, those of `write`, and the loads that the keeper failed to take
pub record Faults : Type 0 where
  pub reads : ℕ
  pub writes : ℕ
  pub loads : ℕ

-- a connection: the bytes that were read of it and those that were not, the turns, and what was sent; and the counts as it began, and as it was finished
pub record Visit : Type 0 where
  pub got : List ℕ
  pub left : List ℕ
  pub turns : List Turn
  pub sent : List ℕ
  pub end : End
  pub before : Faults
  pub after : Faults

-- it is served whole: the session is that of all its bytes, and all replies were sent
pub record IsWholeVisit (office : Office) (visit : Visit) : Type 0 where
  pub session : IsSession office (visit.got ++ visit.left) visit.turns
  pub sent : visit.sent ≡ replies visit.turns

-- it is cut by a read: all requests of the bytes that were read are served, and all replies were sent
pub record IsCutByRead (office : Office) (visit : Visit) : Type 0 where
  pub session : IsSession office visit.got visit.turns
  pub sent : visit.sent ≡ replies visit.turns

-- it is cut by a write: the first requests are served, at least one, and of the last of these the reply was not sent whole
pub record IsCutByWrite (office : Office) (visit : Visit) : Type 0 where
  pub front : IsFront office visit.got visit.turns
  pub cut : IsCut visit.sent visit.turns

abbrev pub IsVisitBy : End → Office → Visit → Type 0
IsVisitBy Whole office visit = IsWholeVisit office visit
IsVisitBy CutByRead office visit = IsCutByRead office visit
IsVisitBy CutByWrite office visit = IsCutByWrite office visit

abbrev pub IsVisit : Office → Visit → Type 0
IsVisit office visit = IsVisitBy visit.end office visit

-- each connection starts with the office that the one before left
abbrev pub AreVisits : Office → List Visit → Type 0
AreVisits office [] = Unit {0}
AreVisits office (visit ∷ visits) = IsVisit office visit × AreVisits (office_behind office visit.turns) visits

abbrev pub office_left : Office → List Visit → Office
office_left office [] = office
office_left office (visit ∷ visits) = office_left (office_behind office visit.turns) visits

-- ---- counts

abbrev pub is_cut_by_read : End → Bool
is_cut_by_read CutByRead = true
is_cut_by_read Whole = false
is_cut_by_read CutByWrite = false

abbrev pub is_cut_by_write : End → Bool
is_cut_by_write CutByWrite = true
is_cut_by_write Whole = false
is_cut_by_write CutByRead = false

-- in a connection the count of `read` rose exactly if a read cut it, and that of `write` if a write did; and the keeper's rose by the loads that it failed to take
pub record IsPaid (visit : Visit) : Type 0 where
  pub reads : Counts (is_cut_by_read visit.end) visit.before.reads visit.after.reads
  pub writes : Counts (is_cut_by_write visit.end) visit.before.writes visit.after.writes
  pub loads : Rises visit.before.loads visit.after.loads (failed_commits visit.turns)

-- so in each of these connections, which begin with these counts, and leave those; each has those that the one before left
abbrev pub ArePaid : Faults → List Visit → Faults → Type 0
ArePaid before [] after = after ≡ before
ArePaid before (visit ∷ visits) after = (visit.before ≡ before) × IsPaid visit × ArePaid visit.after visits after

-- ---- the door

abbrev pub bytes_of : Visit → List ℕ
bytes_of visit = visit.got ++ visit.left

-- the line as the door tells it, with its counts as the connection was finished
abbrev pub line_of : Visit → EndedLine
line_of visit = record {
  line = record { left = visit.left; written = visit.sent };
  reads = visit.after.reads;
  writes = visit.after.writes;
}

-- these connections were accepted, and are finished
pub record HavePassed (visits : List Visit) (before after : Wire) : Type 0 where
  pub coming : before.coming ≡ map bytes_of visits ++ after.coming
  pub past : after.past ≡ before.past ++ map line_of visits

-- there is no further connection, if they are told
abbrev pub NobodyComes : Option Wire → Type 0
NobodyComes wire = IfSome wire (λ (w : Wire). w.coming ≡ [])

-- ---- how it ends

-- what serving changes
pub record World : Type 0 where
  pub door : DoorView
  pub service : Standing

abbrev pub faults_in : World → Faults
faults_in world = record { reads = world.door.reads; writes = world.door.writes; loads = world.service.faults }

-- the tables are those after these turns, or after one more of the session
pub record StandsBehind (office : Office) (input : List ℕ) (turns : List Turn) (before after : Standing) : Type 0 where
  pub more : List Turn
  pub one : length more ≤ 1
  pub front : IsFront office input (turns ++ more)
  pub tables : Become before (office_behind office (turns ++ more)) after

-- in this connection memory was not to be had: no read and no write failed, the replies to its first requests were sent whole, and no other
pub record IsLost (office : Office) (visit : Visit) (before after : Standing) : Type 0 where
  pub end : visit.end ≡ Whole
  pub front : IsFront office visit.got visit.turns
  pub sent : visit.sent ≡ replies visit.turns
  pub tables : AreOfOffice before → StandsBehind office visit.got visit.turns before after

-- the office is the one that the connections left, and no other was begun
pub record AreAll (visits lost : List Visit) (before after : Standing) : Type 0 where
  pub none : lost ≡ []
  pub office : after.office ≡ office_left before.office visits
  pub tables : Keeps before after

-- as many connections as were to be served were, or there is no further one
pub record IsDone (n : ℕ) (visits lost : List Visit) (before after : World) : Type 0 where
  pub all : AreAll visits lost before.service after.service
  pub accepts : after.door.accepts ≡ before.door.accepts
  pub last : (length visits ≡ n) ⊎ NobodyComes after.door.wire

-- a connection was to be accepted, and the door failed
pub record HasDoorFailed (n : ℕ) (visits lost : List Visit) (before after : World) : Type 0 where
  pub all : AreAll visits lost before.service after.service
  pub more : length visits < n
  pub accepts : HasRisen before.door.accepts after.door.accepts

pub record LacksMemory (visits lost : List Visit) (before after : World) : Type 0 where
  pub visit : Visit
  pub one : lost ≡ visit ∷ []
  pub is : IsLost (office_left before.service.office visits) visit before.service after.service
  pub accepts : after.door.accepts ≡ before.door.accepts

abbrev pub EndsBy : Result Unit ServeFault → ℕ → List Visit → List Visit → World → World → Type 0
EndsBy (Ok nothing) n visits lost before after = IsDone n visits lost before after
EndsBy (Err DoorFailed) n visits lost before after = HasDoorFailed n visits lost before after
EndsBy (Err Memory) n visits lost before after = LacksMemory visits lost before after

-- Connections were served, n at most, whatever ended it. The tables are those of the office throughout, if they are told as such before. Want of memory ends the serving, so that it takes one connection at most.
pub record Serves (n : ℕ) (before after : World) (ending : Result Unit ServeFault) : Type 0 where
  pub visits : List Visit
  pub lost : List Visit
  pub few : length (visits ++ lost) ≤ n
  pub are : AreVisits before.service.office visits
  pub wire : Both (HavePassed (visits ++ lost)) before.door.wire after.door.wire
  pub listens : after.door.listens ≡ before.door.listens
  pub is_open : after.door.is_open ≡ before.door.is_open
  pub paid : ArePaid (faults_in before) (visits ++ lost) (faults_in after)
  pub ends : EndsBy ending n visits lost before after
