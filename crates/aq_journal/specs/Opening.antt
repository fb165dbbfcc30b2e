-- What is known of a gate once the journal is settled and opened, and of the disk's faults.
use Rattle.std.specs.Prelude.{◌≡◌, ◌⊎◌, ℕ, ◌+◌, ◌^◌, ◌≤◌, List, length, Result, Ok, Err}
use Rattle.aq_base.specs.Faults.{HasRisen, next}
use Rattle.aq_journal.specs.declared.gate.Gate.{Gate}
use Rattle.aq_journal.specs.declared.gate.Gate.TheVariants.{Unsynced, Unread, Shut, Doubtful}
use Rattle.aq_rules.specs.Kept.RowChanges.{RowChange}
use Rattle.aq_journal.specs.JournalFormat.{body_of, frame_of}
use Rattle.aq_journal.specs.declared.trouble.Trouble.{Trouble}
use Rattle.aq_journal.specs.declared.trouble.Trouble.TheVariants.{Failed, Refused, Memory}
use Rattle.aq_keeper.specs.declared.keeper.KeeperFault.{KeeperFault}
use Rattle.aq_keeper.specs.declared.keeper.KeeperFault.TheVariants as fault

-- the disk was synced, and the gate is not open for sure
abbrev pub IsSettled : Gate → Type 0
IsSettled Unsynced = ⊥
IsSettled Unread = Unit {0}
IsSettled (Shut end) = Unit {0}
IsSettled (Doubtful end) = ⊥

-- the disk's count rises where it failed, and nowhere else; what is refused has a reason
abbrev pub IsTrouble : {A : Type 0} → ℕ → ℕ → Type 0 → Result A Trouble → Type 0
IsTrouble before after Why (Ok answer) = after ≡ before
IsTrouble before after Why (Err Failed) = HasRisen before after
IsTrouble before after Why (Err Refused) = (after ≡ before) × Why
IsTrouble before after Why (Err Memory) = after ≡ before

-- The body of a batch has 2^32 bytes or more, or its frame and the gate behind it would end at 2^63 or later.
abbrev pub IsTooGreat : List RowChange → Gate → Type 0
IsTooGreat batch gate = (2 ^ 32 ≤ length (body_of batch)) ⊎ ((end : ℕ) × (gate ≡ Shut end) × (2 ^ 63 ≤ end + length (frame_of batch) + 1))

-- an answer is a failure only for such a reason
abbrev pub FailsOnlyIf : {A : Type 0} → Result A KeeperFault → Type 0 → Type 0
FailsOnlyIf (Ok answer) Why = Unit {0}
FailsOnlyIf (Err fault.Failed) Why = Why
FailsOnlyIf (Err fault.Memory) Why = Unit {0}

-- what a refused refresh is to a journal
abbrev pub trouble_of : KeeperFault → Trouble
trouble_of fault.Failed = Failed
trouble_of fault.Memory = Memory

-- the keeper counts what it refuses
abbrev pub refusals_after : {A : Type 0} → ℕ → Result A Trouble → ℕ
refusals_after before (Ok answer) = before
refusals_after before (Err Failed) = before
refusals_after before (Err Refused) = next before
refusals_after before (Err Memory) = before

abbrev pub answered : {A : Type 0} → Result A Trouble → Result A KeeperFault
answered (Ok answer) = Ok answer
answered (Err Failed) = Err fault.Failed
answered (Err Refused) = Err fault.Failed
answered (Err Memory) = Err fault.Memory
