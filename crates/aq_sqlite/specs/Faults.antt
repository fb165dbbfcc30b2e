-- What a keeper answers for an error of its connection, and why it fails.
use Rattle.std.specs.Prelude.{◌≡◌, ◌⊎◌, false, Result, Ok, Err}
use Rattle.aq_tables.specs.Why.{MoreFaults}
use Rattle.sqlite.specs.State.{State, HasCleanDisk}
use Rattle.sqlite.specs.declared.error.Error.{Error}
use Rattle.sqlite.specs.declared.error.Error.TheVariants.{SqliteFailure}
use Rattle.sqlite.specs.declared.error.ErrorCode.TheVariants.{OutOfMemory}
use Rattle.aq_keeper.specs.declared.keeper.KeeperFault.{KeeperFault}
use Rattle.aq_keeper.specs.declared.keeper.KeeperFault.TheVariants.{Failed, Memory}

-- want of memory, or a failure
abbrev pub fault_of : Error → KeeperFault
fault_of (SqliteFailure OutOfMemory) = Memory
fault_of _ = Failed

abbrev pub answered : {A : Type 0} → Result A Error → Result A KeeperFault
answered (Ok answer) = Ok answer
answered (Err error) = Err (fault_of error)

-- a call failed only for this; want of memory is no failure
abbrev pub FailsOnlyIf : {A : Type 0} → Result A KeeperFault → Type 0 → Type 0
FailsOnlyIf (Ok answer) Why = Unit {0}
FailsOnlyIf (Err Failed) Why = Why
FailsOnlyIf (Err Memory) Why = Unit {0}

-- while the disk is clean: the store's faults rose, the connection was shut before, or it refused with an error that is named
abbrev pub HasReason : (Error → Type 0) → State → State → Type 0
HasReason Refuses old new = HasCleanDisk new → MoreFaults old.faults new.faults ⊎ ((old.is_open ≡ false) ⊎ ((error : Error) × Refuses error))
