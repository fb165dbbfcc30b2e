-- What the statements do that make the tables of today, within one transaction.
use Rattle.std.specs.Prelude.{◌≡◌, ◌≢◌, ◌==◌, not, false, ℕ, Bool, List, [], ◌∷◌, ◌++◌, codes, filter, slice_get, Some, None, IsTrue, MatchBool}
use Rattle.std.specs.List.{AllByRecursion}
use Rattle.sqlite.specs.Table.{Table}
use Rattle.sqlite.specs.Does.{is_acted_on}
use Rattle.sqlite_schema.specs.declared.schema.Index.{Index}
use Rattle.sqlite_schema.specs.declared.schema.Keys.TheVariants.{Enforced}
use Rattle.sqlite_schema.specs.declared.schema.View.{View}
use Rattle.sqlite.specs.Effect.{Database, IsDatabase}
use Rattle.sqlite.specs.State.{State}
use Rattle.sqlite_schema.specs.Names.{table_named, same_name}
use Rattle.sqlite_catalog.specs.Change.{KeepsRows}
use Rattle.aq_tables.specs.Forms.{Form, table_of, records_form, loads_form, second_form}
use Rattle.aq_tables.specs.Standing.{IsChildless, Stands}
use Rattle.aq_tables.specs.Made.{HasForm, IsAdded, IsOurView}

-- ---- a table is made

-- tables that may come, and their indexes, follow what stood, and each table that stood keeps its rows
pub record Extends (old new : Database) : Type 0 where
  pub more : List Table
  pub tables : new.schema.tables ≡ old.schema.tables ++ more
  pub added : AllByRecursion IsAdded more
  pub further : List Index
  pub indexes : new.schema.indexes ≡ old.schema.indexes ++ further
  pub views : new.schema.views ≡ old.schema.views
  pub rows : KeepsRows old.schema.tables old.trees new.trees

-- a table of the form is made where none had its name, and has no rows
pub record MakesForm (form : Form) (old new : Database) : Type 0 where
  pub missing : table_named old.schema form.name ≡ None
  pub extends : Extends old new
  pub formed : HasForm new.schema form
  pub empty : new.trees formed.tree ≡ []
  -- another name that was free is free still
  pub free : (name : List ℕ) → same_name form.name name ≡ false → same_name (codes "sqlite_sequence") name ≡ false → table_named old.schema name ≡ None → table_named new.schema name ≡ None

-- ---- the table of before is dropped

-- `observations2` is gone, with its indexes; each other table has the rows that it had if it has no foreign key, or if none acts there
pub record Loses (tree : ℕ) (old new : Database) : Type 0 where
  pub tables : new.schema.tables ≡ filter (λ (t : Table). not (t.tree == tree)) old.schema.tables
  pub indexes : new.schema.indexes ≡ filter (λ (i : Index). not (i.table == tree)) old.schema.indexes
  pub views : new.schema.views ≡ old.schema.views
  pub spared : is_acted_on old.schema Enforced (table_of second_form 0) ≡ false → KeepsRows (filter (λ (t : Table). not (t.tree == tree)) old.schema.tables) old.trees new.trees
  pub others : (place : ℕ) (t : Table) → slice_get old.schema.tables place ≡ Some t → t.tree ≢ tree → AllByRecursion (IsChildless t.tree) old.schema.tables → new.trees t.tree ≡ old.trees t.tree

abbrev pub LosesSecond : Database → Database → Type 0
LosesSecond old new = (at tree : ℕ) → Stands old.schema second_form at tree → Loses tree old new

-- ---- the view is made

-- the tables stay, with their rows, and none of them has the name of the view, which follows those that stood
pub record AddsView (old new : Database) : Type 0 where
  pub free : table_named old.schema second_form.name ≡ None
  pub tables : new.schema.tables ≡ old.schema.tables
  pub indexes : new.schema.indexes ≡ old.schema.indexes
  pub view : View
  pub ours : IsOurView view
  pub views : new.schema.views ≡ old.schema.views ++ view ∷ []
  pub rows : KeepsRows old.schema.tables old.trees new.trees
  pub sound : IsDatabase new

-- ---- within the transaction, whether or not there was something to do

pub record Does (Changes : Database → Database → Type 0) (old new : State) : Type 0 where
  pub mode : IsTrue new.in_transaction
  pub was_open : IsTrue new.is_open → IsTrue old.is_open
  pub committed : new.committed ≡ old.committed
  pub changes : Changes old.now new.now

abbrev pub MakesFirst : Bool → State → State → Type 0
MakesFirst are_missing = Does (λ old new. MatchBool are_missing ((mid : Database) × MakesForm records_form old mid × MakesForm loads_form mid new) (new ≡ old))

abbrev pub DropsSecond : Bool → State → State → Type 0
DropsSecond is_missing = Does (λ old new. MatchBool is_missing (new ≡ old) (LosesSecond old new))
