-- Calls of a keeper over a disk, one after the other.
use Rattle.std.specs.Prelude.{◌≡◌, ◌⊎◌, Bool, true, List, [], ◌∷◌, Option, IsSomeAnd}
use Rattle.aq_rules.specs.Kept.Rows.{Row}
use Rattle.aq_rules.specs.Kept.RowChanges.{RowChange, with_row_changes}
use Rattle.aq_journal.specs.declared.disk.Disk.{Ghosts}
use Rattle.aq_journal.specs.Disks.{IfTells}
use Rattle.aq_journal.specs.Keeping.{KeeperState, Endures, told, with_batch}

pub data Call : Type 0 where
  Reads : Call
  Commits : List RowChange → Call

-- the tables that a keeper tells
abbrev pub told_by : {D : Type 0} → Ghosts D → KeeperState D → Option (List Row)
told_by d keeper = told keeper.gate (d.seen keeper.disk)

-- what a call makes of tables, if it answers Ok
abbrev pub made_by : Call → Option (List Row) → Option (List Row)
made_by Reads rows = rows
made_by (Commits batch) rows = with_batch batch rows

-- what the clauses of a call say, whatever it answered, if the disk tells still
pub record IsCall {D : Type 0} (d : Ghosts D) (call : Call) (old new : KeeperState D) : Type 0 where
  pub tables : (told_by d new ≡ told_by d old) ⊎ (told_by d new ≡ made_by call (told_by d old))
  pub crash : Endures d old.disk new.disk old.gate new.gate (made_by call (told_by d old))

-- calls, each with the keeper after it
abbrev pub AreCalls : {D : Type 0} → Ghosts D → KeeperState D → List (Call × KeeperState D) → Type 0
AreCalls d before [] = Unit {0}
AreCalls d before (call ∷ calls) = IfTells (d.seen call.1.disk) (IsCall d call.0 before call.1) × AreCalls d call.1 calls

-- the keeper after the last of them
abbrev pub after_all : {D : Type 0} → KeeperState D → List (Call × KeeperState D) → KeeperState D
after_all before [] = before
after_all before (call ∷ calls) = after_all call.1 calls

-- tables that pass a test pass it with the batch too
abbrev pub Spares : (List Row → Bool) → Call → Type 0
Spares test Reads = Unit {0}
Spares test (Commits batch) = (rows : List Row) → test rows ≡ true → test (with_row_changes rows batch) ≡ true

abbrev pub AllSpare : {D : Type 0} → (List Row → Bool) → List (Call × KeeperState D) → Type 0
AllSpare test [] = Unit {0}
AllSpare test (call ∷ calls) = Spares test call.0 × AllSpare test calls

-- there are tables, and they pass
abbrev pub Passes : (List Row → Bool) → Option (List Row) → Type 0
Passes test tables = IsSomeAnd tables (λ rows. test rows ≡ true)
