-- What a keeper over a disk is, what it tells, and what a crash leaves of its tables.
use Rattle.std.specs.Prelude.{◌≡◌, ◌⊎◌, ℕ, ◌+◌, ◌-◌, ◌^◌, ◌<◌, ◌≤◌, min, Bool, List, [], ◌∷◌, ◌++◌, length, take, drop, Option, IfSome, is_some}
use Rattle.std.specs.Option.{option_map, option_and_then}
use Rattle.std.specs.List.{AllByRecursion}
use Rattle.aq_rules.specs.Kept.Rows.{Row}
use Rattle.aq_rules.specs.Kept.RowChanges.{RowChange, with_row_changes}
use Rattle.aq_journal.specs.declared.disk.Disk.{Ghosts}
use Rattle.aq_journal.specs.declared.gate.Gate.{Gate}
use Rattle.aq_journal.specs.declared.gate.Gate.TheVariants.{Unsynced, Unread, Shut, Doubtful}
use Rattle.aq_journal.specs.Calls.{Since, Onwards}
use Rattle.aq_journal.specs.JournalFormat.{BatchFits, IsJournalOf, header, frames_of, journal_of, sized, body_of, tables_in}

-- the disk, the gate that ends the journal, how many calls were refused (a file that is no journal, a batch that is too great, or none to be had any more), how many were commits, and whether the tables are held still
pub record KeeperState (D : Type 0) : Type 0 where
  pub disk : D
  pub gate : Gate
  pub refusals : ℕ
  pub commits : ℕ
  pub is_held : Bool

-- the faults of the disk, and the keeper's own; the greatest value stands for all above it
abbrev pub both_counts : ℕ → ℕ → ℕ
both_counts disk own = min (disk + own) (2 ^ 64 - 1)

-- ---- what is told

-- a file up to a gate, which is shut
abbrev pub shut_at : ℕ → List ℕ → List ℕ
shut_at end file = take end file ++ 0 ∷ []

-- a file with a gate opened
abbrev pub open_at : ℕ → List ℕ → List ℕ
open_at end file = take end file ++ 1 ∷ drop (end + 1) file

-- the tables of the file, but for a frame whose gate may be open
abbrev pub told : Gate → Option (List ℕ) → Option (List Row)
told Unsynced seen = option_and_then tables_in seen
told Unread seen = option_and_then tables_in seen
told (Shut end) seen = option_and_then tables_in seen
told (Doubtful end) seen = option_and_then (λ file. tables_in (shut_at end file)) seen

-- the tables with that frame, which a crash may leave too
abbrev pub in_doubt : Gate → Option (List ℕ) → Option (List Row)
in_doubt Unsynced seen = option_and_then tables_in seen
in_doubt Unread seen = option_and_then tables_in seen
in_doubt (Shut end) seen = option_and_then tables_in seen
in_doubt (Doubtful end) seen = option_and_then (λ file. tables_in (open_at end file)) seen

-- the tables once a batch is made
abbrev pub with_batch : List RowChange → Option (List Row) → Option (List Row)
with_batch batch rows = option_map (λ stood. with_row_changes stood batch) rows

-- ---- what a crash leaves

-- a first sync was answered
abbrev pub IsSynced : Gate → Type 0
IsSynced Unsynced = ⊥
IsSynced Unread = Unit {0}
IsSynced (Shut end) = Unit {0}
IsSynced (Doubtful end) = Unit {0}

-- nothing else is in doubt
abbrev pub IsCertain : Gate → Option (List ℕ) → Type 0
IsCertain gate seen = IsSynced gate × (in_doubt gate seen ≡ told gate seen)

-- tables are one of three
abbrev pub IsAmong : Option (List Row) → Option (List Row) → Option (List Row) → Option (List Row) → Type 0
IsAmong tables first second third = (tables ≡ first) ⊎ ((tables ≡ second) ⊎ (tables ≡ third))

-- where the disk tells, an image has the tables that were told, those in doubt, or these
abbrev pub Leaves : {D : Type 0} → Ghosts D → D → Gate → Option (List Row) → List ℕ → Type 0
Leaves d disk gate also image = IfSome (d.seen disk) (λ file. IsAmong (tables_in image) (told gate (d.seen disk)) (in_doubt gate (d.seen disk)) also)

-- Until the first sync was answered a crash at any moment of a call leaves only what it could leave before. From then on it
-- leaves the tables that were told before the call, those that were in doubt, or those that are still to be told.
pub record Endures {D : Type 0} (d : Ghosts D) (old new : D) (gate later : Gate) (also : Option (List Row)) : Type 0 where
  pub until : Since d old new (λ image. IsSynced later × Leaves d old gate also image)
  pub onwards : IsSynced later → Onwards d old new (Leaves d old gate also)
  pub stays : IsSynced gate → IsSynced later
  pub tells : is_some (d.seen new) ≡ is_some (d.seen old)
  -- one of them is in doubt after it
  pub doubt : IfSome (d.seen new) (λ file. IsAmong (in_doubt later (d.seen new)) (told gate (d.seen old)) (in_doubt gate (d.seen old)) also)

-- between two calls a crash leaves the tables that are told, or those in doubt
abbrev pub IsLeft : {D : Type 0} → Ghosts D → D → Gate → Type 0
IsLeft d disk gate = IsSynced gate → IfSome (d.seen disk) (λ file. (image : List ℕ) → d.may_leave disk image → (tables_in image ≡ told gate (d.seen disk)) ⊎ (tables_in image ≡ in_doubt gate (d.seen disk)))

-- ---- what is known of the images

-- each of them is a journal of these batches, with its end at this place
pub record AreJournals (end : ℕ) (batches : List (List RowChange)) (may_leave : List ℕ → Type 0) : Type 0 where
  pub place : end ≡ length (header ++ frames_of batches)
  pub fits : AllByRecursion BatchFits batches
  pub images : (image : List ℕ) → may_leave image → IsJournalOf image batches

-- these batches, a gate, whatever it is, a whole frame behind it, and whatever follows that
pub record HasFrame (batches : List (List RowChange)) (batch : List RowChange) (image : List ℕ) : Type 0 where
  pub gate : ℕ
  pub junk : List ℕ
  pub whole : image ≡ journal_of batches gate (sized (body_of batch) ++ 0 ∷ junk)

-- each of them is so, with a gate of its own
pub record AreStaged (end : ℕ) (batches : List (List RowChange)) (batch : List RowChange) (may_leave : List ℕ → Type 0) : Type 0 where
  pub place : end ≡ length (header ++ frames_of batches)
  pub fits : AllByRecursion BatchFits batches
  pub one : BatchFits batch
  pub images : (image : List ℕ) → may_leave image → HasFrame batches batch image

-- each of them is the file; or it is the empty journal, as the file is, for want of bytes
abbrev pub AreRead : List ℕ → (List ℕ → Type 0) → Type 0
AreRead file may_leave = (image : List ℕ) → may_leave image → (image ≡ file) ⊎ ((length file ≤ 9) × (length image ≤ 9))

abbrev pub Stands : Gate → List ℕ → (List ℕ → Type 0) → Type 0
Stands Unsynced file may_leave = Unit {0}
Stands Unread file may_leave = AreRead file may_leave
Stands (Shut end) file may_leave = (batches : List (List RowChange)) × AreJournals end batches may_leave
Stands (Doubtful end) file may_leave = (batches : List (List RowChange)) × (batch : List RowChange) × AreStaged end batches batch may_leave

-- the place of the gate leaves room behind it
abbrev pub HasRoom : Gate → Type 0
HasRoom Unsynced = Unit {0}
HasRoom Unread = Unit {0}
HasRoom (Shut end) = end + 1 < 2 ^ 63
HasRoom (Doubtful end) = end + 1 < 2 ^ 63

pub record IsHeld {D : Type 0} (d : Ghosts D) (disk : D) (gate : Gate) : Type 0 where
  pub room : HasRoom gate
  pub file : IfSome (d.seen disk) (λ file. Stands gate file (d.may_leave disk))

-- what a commit writes behind a gate
pub record IsBehind (batch : List RowChange) (bytes : List ℕ) : Type 0 where
  pub fits : BatchFits batch
  pub bytes_are : bytes ≡ sized (body_of batch) ++ 0 ∷ []
