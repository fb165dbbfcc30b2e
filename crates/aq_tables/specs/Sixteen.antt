-- Rows that are put into `observations3`, sixteen by one INSERT.
use Rattle.std.specs.Prelude.{◌≡◌, ◌≢◌, ℕ, List, codes, map, IsSome, IsTrue}
use Rattle.std.specs.List.{AllByRecursion}
use Rattle.aq_rules.specs.Kept.Rows as the_rows
use Rattle.aq_rules.specs.Kept.Rows.{ObsRow2, OfSecondRow}
use Rattle.aq_rules.specs.Kept.RowChanges.{RowChange, PutRow, with_row_changes}
use Rattle.sqlite.specs.Table.{Table}
use Rattle.sqlite.specs.Effect.{Database}
use Rattle.sqlite.specs.State.{State}
use Rattle.aq_tables.specs.Standing.{HasTable}
use Rattle.aq_tables.specs.Told.{Turns, number_of, third}

abbrev pub put_sixteen : List ℕ
put_sixteen = codes "INSERT INTO observations3 (id, value, method, nullcode, quals) VALUES (?, ?, ?, ?, ?), (?, ?, ?, ?, ?), (?, ?, ?, ?, ?), (?, ?, ?, ?, ?), (?, ?, ?, ?, ?), (?, ?, ?, ?, ?), (?, ?, ?, ?, ?), (?, ?, ?, ?, ?), (?, ?, ?, ?, ?), (?, ?, ?, ?, ?), (?, ?, ?, ?, ?), (?, ?, ?, ?, ?), (?, ?, ?, ?, ?), (?, ?, ?, ?, ?), (?, ?, ?, ?, ?), (?, ?, ?, ?, ?)"

-- changes that put observations
abbrev pub puts_of : List ObsRow2 → List RowChange
puts_of = map (λ row. PutRow (OfSecondRow row))

-- the key of each has a number
abbrev pub AreNumbered : List ObsRow2 → Type 0
AreNumbered = AllByRecursion (λ row. IsSome (number_of row))

-- each other table keeps its rows
abbrev pub KeepsOthers : ℕ → Database → Database → Type 0
KeepsOthers tree old new = AllByRecursion (λ (t : Table). t.tree ≢ tree → new.trees t.tree ≡ old.trees t.tree) old.schema.tables

-- rows were put one after the other, and nothing else changed
pub record PutsThird (rows : List ObsRow2) (old new : Database) (at tree : ℕ) : Type 0 where
  pub turns : Turns third (λ told. with_row_changes told (puts_of rows)) old new at tree
  pub others : KeepsOthers tree old new

-- the same within the transaction, where none stood under their keys, of which each has a number
pub record PutsAll (rows : List ObsRow2) (old new : State) : Type 0 where
  pub was_open : IsTrue old.is_open
  pub mode : IsTrue new.in_transaction
  pub committed : new.committed ≡ old.committed
  pub numbered : AreNumbered rows
  pub puts : (at tree : ℕ) → HasTable third old.now at tree → PutsThird rows old.now new.now at tree

-- within the transaction nothing changed
pub record IsStill (old new : State) : Type 0 where
  pub now : new.now ≡ old.now
  pub mode : IsTrue new.in_transaction
  pub committed : new.committed ≡ old.committed

-- rows that are observations were moved so: none of them was passed over; where there are none nothing was executed
pub record MovesAll (rows : List the_rows.Row) (old new : State) : Type 0 where
  pub mode : IsTrue new.in_transaction
  pub was_open : IsTrue new.is_open → IsTrue old.is_open
  pub committed : new.committed ≡ old.committed
  pub found : List ObsRow2
  pub are : rows ≡ map OfSecondRow found
  pub puts : (at tree : ℕ) → HasTable third old.now at tree → PutsThird found old.now new.now at tree
