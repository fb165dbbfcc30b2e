-- What a crash may leave of the tables, as rows: those of each database that an open may find after it.
use Rattle.std.specs.Prelude.{◌≡◌, ◌⊎◌, Bool, true, false, List, [], ◌∷◌, Option, Some, None}
use Rattle.sqlite.specs.Effect.{Database, IsDatabase}
use Rattle.sqlite.specs.State.{State, HasCleanDisk, Survives}
use Rattle.sqlite.specs.Held.{Held, state}
use Rattle.sqlite_trees.specs.declared.store.Store.{Ghosts}
use Rattle.aq_rules.specs.Kept.Rows.{Row}
use Rattle.aq_rules.specs.Kept.RowChanges.{RowChange}
use Rattle.aq_keeper.specs.Told.{Stays}
use Rattle.aq_tables.specs.All.{rows_of}
use Rattle.aq_tables.specs.Crash.{Kept, Attempt, kept_after}
use Rattle.aq_sqlite.specs.Telling.{told, with_batch}

-- a crash leaves rows of this kind and no others
abbrev pub LeavesOnly : (List Row → Type 0) → State → Type 0
LeavesOnly Are s = HasCleanDisk s → (db : Database) → IsDatabase db → s.may_leave db.trees → Are (rows_of db)

-- a crash leaves what it could leave before, or rows of this kind
pub record AlsoLeaves (Are : List Row → Type 0) (old new : State) : Type 0 where
  pub clean : HasCleanDisk new → HasCleanDisk old
  pub crash : HasCleanDisk new → (db : Database) → IsDatabase db → new.may_leave db.trees → old.may_leave db.trees ⊎ Are (rows_of db)

-- ---- calls one after the other, of a keeper that has prepared its tables

-- what is said of a commit, by whether it was acknowledged
abbrev pub SaysOfCommit : Bool → List RowChange → State → State → Type 0
SaysOfCommit true batch old new = Stays (with_batch batch (told true old)) (told true new) × LeavesOnly (λ rows. with_batch batch (told true old) ≡ Some rows) new
SaysOfCommit false batch old new = Stays (told true old) (told true new) × AlsoLeaves (λ rows. with_batch batch (told true old) ≡ Some rows) old new

-- what is said of a call that tries to commit a batch, and of one that reads
abbrev pub SaysOf : Option Attempt → State → State → Type 0
SaysOf (Some attempt) old new = SaysOfCommit attempt.is_done attempt.batch old new
SaysOf None old new = Stays (told true old) (told true new) × Survives old new (λ _. ⊥)

-- calls, each with the connection after it
abbrev pub AreCalled : {S : Type 0} → Ghosts S → Held S → List (Option Attempt × Held S) → Type 0
AreCalled g before [] = Unit {0}
AreCalled g before ((call, after) ∷ calls) = SaysOf call (state g before) (state g after) × AreCalled g after calls

-- the connection after the last of them
abbrev pub last_after : {S : Type 0} → Held S → List (Option Attempt × Held S) → Held S
last_after before [] = before
last_after before ((call, after) ∷ calls) = last_after after calls

abbrev pub kept_through : {S : Type 0} → Kept → List (Option Attempt × Held S) → Kept
kept_through kept [] = kept
kept_through kept ((Some attempt, after) ∷ calls) = kept_through (kept_after kept attempt) calls
kept_through kept ((None, after) ∷ calls) = kept_through kept calls

abbrev pub IsOneOf : List (List Row) → List Row → Type 0
IsOneOf [] rows = ⊥
IsOneOf (left ∷ more) rows = (rows ≡ left) ⊎ IsOneOf more rows

-- what is told is what stands, and a crash leaves one of these lists of rows
pub record IsKept (kept : Kept) (s : State) : Type 0 where
  pub told_is : Stays (Some kept.rows) (told true s)
  pub left : LeavesOnly (IsOneOf kept.left) s
