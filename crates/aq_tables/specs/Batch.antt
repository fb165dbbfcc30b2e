-- What a batch makes of the tables, whatever else the database has.
use Rattle.std.specs.Prelude.{◌≡◌, ◌≢◌, ◌⊎◌, ℕ, Bool, true, false, List, [], slice_get, Some, is_some, IsSome, IsTrue}
use Rattle.std.specs.List.{AllByRecursion}
use Rattle.sqlite.specs.Tree.{Trees}
use Rattle.sqlite.specs.Effect.{Database, IsDatabase}
use Rattle.sqlite.specs.Schema.{Schema}
use Rattle.sqlite.specs.State.{State}
use Rattle.sqlite_schema.specs.Names.{table_named}
use Rattle.aq_rules.specs.Kept.Rows as the_rows
use Rattle.aq_rules.specs.Kept.Rows.{OfSecondRow}
use Rattle.aq_rules.specs.Kept.RowChanges.{RowKey, OfficeRowKey, ObsRowKey, LoadRowKey, SecondRowKey, RowChange, PutRow, row_key, drop_row, with_row_changes}
use Rattle.sqlite.specs.Table.{Table}
use Rattle.aq_tables.specs.Standing.{Ours, HasTable, IsChildless}
use Rattle.aq_tables.specs.declared.reading.Table.{Table as Which}
use Rattle.aq_tables.specs.Forms.{observations_form}
use Rattle.aq_tables.specs.Told.{Puts, Turns, number_of, ours_of, records, observations, loads, third}
use Rattle.aq_tables.specs.All.{HasTables, rows_of, tree_named}

-- the table that a change of a key goes to
abbrev pub table_at : RowKey → Ours
table_at (OfficeRowKey kind key) = records
table_at (ObsRowKey site pollutant poc hour) = observations
table_at (LoadRowKey number) = loads
table_at (SecondRowKey site pollutant poc hour) = third

-- a table is none of those that have our names
abbrev pub IsOther : Schema → Table → Type 0
IsOther schema t = (which : Which) → tree_named schema (ours_of which).form.name ≢ Some t.tree

-- each other table without foreign keys has the rows that it had
abbrev pub OthersStay : Schema → Trees → Trees → Type 0
OthersStay schema before after = (place : ℕ) (t : Table) → slice_get schema.tables place ≡ Some t → IsOther schema t → AllByRecursion (IsChildless t.tree) schema.tables → after t.tree ≡ before t.tree

-- the tables stand still, and tell other rows; others are left alone; if the database obeyed its schema, it does
pub record Turned (change : List the_rows.Row → List the_rows.Row) (old new : Database) : Type 0 where
  pub schema : new.schema ≡ old.schema
  pub tables : HasTables new
  pub told_is : rows_of new ≡ change (rows_of old)
  pub others : OthersStay old.schema old.trees new.trees
  pub sound : IsDatabase old → IsDatabase new

-- what a batch makes of a database in which the tables stand
abbrev pub Becomes : List RowChange → Database → Database → Type 0
Becomes batch old new = HasTables old → Turned (λ rows. with_row_changes rows batch) old new

-- whether the table that version 1 kept stands
abbrev pub KnowsFirst : Bool → Schema → Type 0
KnowsFirst first schema = first ≡ is_some (table_named schema observations_form.name)

-- whether a key is of the table that version 1 kept
abbrev pub is_of_first : RowKey → Bool
is_of_first (ObsRowKey site pollutant poc hour) = true
is_of_first key = false

-- A key is dropped within the transaction. Where the table that version 1 kept is missing, none of its keys has a row: then `observations3` stays as it is.
pub record DropsKey (first : Bool) (key : RowKey) (old new : State) : Type 0 where
  pub was_open : IsTrue old.is_open
  pub mode : IsTrue new.in_transaction
  pub committed : new.committed ≡ old.committed
  pub turns : (is_of_first key ≡ false) ⊎ (first ≡ true) → (at tree : ℕ) → HasTable (table_at key) old.now at tree → Turns (table_at key) (drop_row key) old.now new.now at tree
  pub idle : is_of_first key ≡ true → first ≡ false → (at tree : ℕ) → HasTable third old.now at tree → Turns third (λ rows. rows) old.now new.now at tree

-- a change that puts an observation is of a key that has a number
abbrev pub IsNumbered : RowChange → Type 0
IsNumbered (PutRow (OfSecondRow row)) = IsSome (number_of row)
IsNumbered change = Unit {0}

-- a row is put within the transaction where none has its key, and not into a table that is missing
pub record PutsRow (first : Bool) (row : the_rows.Row) (old new : State) : Type 0 where
  pub there : is_of_first (row_key row) ≡ true → first ≡ true
  pub numbered : IsNumbered (PutRow row)
  pub puts : Puts (table_at (row_key row)) row old new

-- within the transaction, where it is known whether the table that version 1 kept stands; a batch that changes something shows that the connection was open
pub record Changes (first : Bool) (batch : List RowChange) (old new : State) : Type 0 where
  pub was_open : batch ≢ [] → IsTrue old.is_open
  pub mode : IsTrue new.in_transaction
  pub committed : new.committed ≡ old.committed
  pub numbered : AllByRecursion IsNumbered batch
  pub becomes : KnowsFirst first old.now.schema → Becomes batch old.now new.now

-- what a crash may leave of a batch that is being committed: all of it, and of a connection that was open
pub record Leaves (batch : List RowChange) (old : State) (trees : Trees) : Type 0 where
  pub was_open : IsTrue old.is_open
  pub db : Database
  pub becomes : Becomes batch old.now db
  pub is : trees ≡ db.trees
