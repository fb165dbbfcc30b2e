-- What a keeper tells that is opened at its first call.
use Rattle.std.specs.Prelude.{Bool, true, false, List, Option, Some, None}
use Rattle.sqlite.specs.Held.{state}
use Rattle.sqlite_trees.specs.declared.store.Store.{Ghosts}
use Rattle.aq_rules.specs.Kept.Rows.{Row}
use Rattle.aq_sqlite.specs.declared.sqlite_keeper.SqliteKeeper.{SqliteKeeper}
use Rattle.aq_sqlite.specs.Telling.{told}

-- before the opening the rows that it will find, and then those of the keeper that was opened
abbrev pub tells : {S O : Type 0} (g : Ghosts S) → List Row → Option O → Option (SqliteKeeper S g) → Option (List Row)
tells g rows (Some opener) keeper = Some rows
tells g rows None (Some keeper) = told keeper.prepared (state g keeper.connection)
tells g rows None None = None

-- what is remembered of what was let go, or what stands
abbrev pub remembered : {A B : Type 0} → Option A → (A → B) → B → B
remembered (Some left) of_left now = of_left left
remembered None of_left now = now

-- its tables are held still, if it remembers nothing of letting them go
abbrev pub is_still_held : {A : Type 0} → Option A → Bool
is_still_held None = true
is_still_held (Some left) = false
