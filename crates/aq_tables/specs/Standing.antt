-- A table of ours that stands in a database, whatever else the database has.
use Rattle.std.specs.Prelude.{◌≡◌, ◌^◌, ◌==◌, nat_le, ℕ, ℤ, Bool, true, false, List, [], slice_get, find, Some}
use Rattle.std.specs.List.{AllByRecursion}
use Rattle.std.specs.Ordering.{is_eq}
use Rattle.sqlite.specs.Order.{Row}
use Rattle.sqlite.specs.Schema.{Schema}
use Rattle.sqlite.specs.Table.{Table}
use Rattle.sqlite.specs.Tree.{rowid}
use Rattle.sqlite.specs.Effect.{Database}
use Rattle.sqlite_value.specs.Order.{value_cmp}
use Rattle.sqlite_trees.specs.Tree.{IsAscending}
use Rattle.sqlite_trees.specs.View.{is_int}
use Rattle.sqlite_rules.specs.Edit.{id_in}
use Rattle.sqlite_schema.specs.Names.{table_named}
use Rattle.aq_rules.specs.Kept.Rows as the_rows
use Rattle.aq_rules.specs.Kept.RowChanges.{row_key, is_same_row_key}
use Rattle.aq_tables.specs.Forms.{Form, table_of}

-- a table of ours: its form, what a stored row says, how a row is stored under a rowid, and which rowids it may have
pub record Ours : Type 0 where
  pub form : Form
  pub says : Row → the_rows.Row
  pub stored : ℤ → the_rows.Row → Row
  pub fits : ℤ → Bool

-- the table that a name stands for
pub record Has (schema : Schema) (name : List ℕ) (at : ℕ) (table : Table) : Type 0 where
  pub named : table_named schema name ≡ Some at
  pub stands : slice_get schema.tables at ≡ Some table
  pub untimed : table.stamps.formats ≡ []

-- a table with this tree has no foreign key
abbrev pub IsChildless : ℕ → Table → Type 0
IsChildless tree t = t.tree ≡ tree → t.references ≡ []

-- the table stands at this place, and no other one has its tree
pub record Stands (schema : Schema) (form : Form) (at tree : ℕ) : Type 0 where
  pub has : Has schema form.name at (table_of form tree)
  pub sole : find (λ (t : Table). t.tree == tree) schema.tables ≡ Some (table_of form tree)
  pub low : nat_le (2 ^ 31) tree ≡ false
  pub childless : AllByRecursion (IsChildless tree) schema.tables

-- two rows have different rowids
abbrev pub HaveOtherRowids : Row → Row → Type 0
HaveOtherRowids a b = is_eq (value_cmp (rowid a) (rowid b)) ≡ false

-- two rows have different keys
abbrev pub HaveOtherKeys : the_rows.Row → the_rows.Row → Type 0
HaveOtherKeys a b = is_same_row_key (row_key a) (row_key b) ≡ false

-- The rows of a tree, in any order: no two have one rowid, or say rows with one key, and each is the stored form of what it says.
pub record IsStored (ours : Ours) (rows : List Row) : Type 0 where
  pub ints : AllByRecursion (λ r. is_int (rowid r) ≡ true) rows
  pub fit : AllByRecursion (λ r. ours.fits (id_in (rowid r)) ≡ true) rows
  pub apart : IsAscending HaveOtherRowids rows
  pub typed : AllByRecursion (λ r. r ≡ ours.stored (id_in (rowid r)) (ours.says r)) rows
  pub keys : IsAscending (λ a b. HaveOtherKeys (ours.says a) (ours.says b)) rows

pub record HasTable (ours : Ours) (db : Database) (at tree : ℕ) : Type 0 where
  pub stands : Stands db.schema ours.form at tree
  pub stored : IsStored ours (db.trees tree)
