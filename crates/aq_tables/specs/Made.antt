-- Which tables stand and which are missing, which databases are of an office or of nobody, and what preparing one does.
use Rattle.std.specs.Prelude.{◌≡◌, ◌⊎◌, ◌==◌, ◌&&◌, ◌||◌, not, false, ℕ, Bool, List, [], ◌++◌, filter, length, None, is_some, codes, IsTrue, MatchBool}
use Rattle.std.specs.List.{AllByRecursion, list_any}
use Rattle.std.specs.Option.{option_map_or}
use Rattle.sqlite.specs.Schema.{Schema}
use Rattle.sqlite.specs.Table.{Table}
use Rattle.sqlite.specs.Does.{is_acted_on}
use Rattle.sqlite.specs.Effect.{Database, IsDatabase}
use Rattle.sqlite.specs.State.{State}
use Rattle.sqlite_schema.specs.declared.schema.Index.{Index}
use Rattle.sqlite_schema.specs.declared.schema.Keys.TheVariants.{Enforced}
use Rattle.sqlite_schema.specs.declared.schema.View.{View}
use Rattle.sqlite_schema.specs.Names.{table_named, view_named}
use Rattle.aq_tables.specs.declared.missing.Missing.{Missing}
use Rattle.aq_tables.specs.declared.reading.Table.{Table as Which}
use Rattle.aq_tables.specs.Forms.{Form, table_of, records_form, observations_form, loads_form, second_form, third_form}
use Rattle.aq_tables.specs.Standing.{Ours, IsChildless, Stands}
use Rattle.aq_tables.specs.Rowids.{AreApart}
use Rattle.aq_tables.specs.Texts.{view_text}
use Rattle.aq_tables.specs.Told.{OfEach, ours_of, records, observations, loads, second, third}
use Rattle.aq_tables.specs.All.{HasOurs, HasTables, rows_of, tree_named}

-- ---- before

abbrev pub form_of : Which → Form
form_of which = (ours_of which).form

-- a table of this form stands, whatever rows it has
pub record HasForm (schema : Schema) (form : Form) : Type 0 where
  pub at : ℕ
  pub tree : ℕ
  pub stands : Stands schema form at tree

-- no two rows of one of the tables that stand have one rowid
abbrev pub AreAllApart : Database → Type 0
AreAllApart db = OfEach (λ table. AreApart (form_of table) db)

-- a table of this form stands, and no other one has its tree
pub record StandsAlone (schema : Schema) (form : Form) : Type 0 where
  pub formed : HasForm schema form
  pub alone : length (filter (λ (t : Table). t.tree == formed.tree) schema.tables) ≡ 1

-- no table has the name, or one of the form stands
abbrev pub IsMissing : Bool → Schema → Form → Type 0
IsMissing missing schema form = MatchBool missing (table_named schema form.name ≡ None) (StandsAlone schema form)

-- a table has the name, and another form, or a tree that is not its own
abbrev pub IsMisformed : Schema → Form → Type 0
IsMisformed schema form = (missing : Bool) → IsMissing missing schema form → ⊥

pub record AreMissing (missing : Missing) (schema : Schema) : Type 0 where
  pub of_records : IsMissing missing.records schema records_form
  pub of_observations : IsMissing missing.observations schema observations_form
  pub of_loads : IsMissing missing.loads schema loads_form
  pub of_second : IsMissing missing.second schema second_form
  pub of_third : IsMissing missing.third schema third_form

-- no table has the name, or one of ours stands with its rows
abbrev pub IsThere : Bool → Ours → Database → Type 0
IsThere missing ours db = MatchBool missing (table_named db.schema ours.form.name ≡ None) (HasOurs ours db)

pub record AreThere (missing : Missing) (db : Database) : Type 0 where
  pub of_records : IsThere missing.records records db
  pub of_observations : IsThere missing.observations observations db
  pub of_loads : IsThere missing.loads loads db
  pub of_second : IsThere missing.second second db
  pub of_third : IsThere missing.third third db

-- ---- whose database it is

-- also tables that SQL here does not understand, which are kept beside the views
abbrev pub has_tables : Schema → Bool
has_tables schema = not (length schema.tables == 0) || list_any (λ v. is_some v.foreign) schema.views

-- a view has the name that the table of before had
abbrev pub has_view : Schema → Bool
has_view schema = is_some (view_named schema (codes "observations2"))

abbrev pub is_named : Schema → Form → Bool
is_named schema form = is_some (table_named schema form.name)

abbrev pub is_of_nobody : Schema → Bool
is_of_nobody schema = not (has_tables schema) && not (has_view schema)

-- as an earlier program left it: of version 1, or with `observations2` beside that
abbrev pub is_of_before : Schema → Bool
is_of_before schema =
    is_named schema records_form && is_named schema observations_form && is_named schema loads_form && not (is_named schema third_form)
    && not (has_view schema)

-- as it is once it is prepared; `observations` may stand beside it
abbrev pub is_of_today : Schema → Bool
is_of_today schema = is_named schema records_form && is_named schema loads_form && is_named schema third_form && not (is_named schema second_form)

-- the tables are those of an office, and none is missing, or of nobody
abbrev pub is_whole : Schema → Bool
is_whole schema = is_of_nobody schema || is_of_before schema || is_of_today schema

pub record IsOffice (schema : Schema) : Type 0 where
  pub missing : Missing
  pub are : AreMissing missing schema
  pub whole : IsTrue (is_whole schema)

-- ---- after: what is left alone

-- whether a tree is that of `observations2`
abbrev pub is_former : Schema → ℕ → Bool
is_former schema tree = option_map_or (λ former. tree == former) (tree_named schema second_form.name) false

-- the tables but for `observations2`, and the indexes on them
abbrev pub other_tables : Schema → List Table
other_tables schema = filter (λ (t : Table). not (is_former schema t.tree)) schema.tables

abbrev pub other_indexes : Schema → List Index
other_indexes schema = filter (λ (i : Index). not (is_former schema i.table)) schema.indexes

-- one of ours, or the table that counts for tables with AUTOINCREMENT, which any CREATE makes if they lack it
abbrev pub IsAdded : Table → Type 0
IsAdded t = ((which : Which) × (t ≡ table_of (form_of which) t.tree)) ⊎ ((t.name ≡ codes "sqlite_sequence") × (t.references ≡ []))

-- the view in place of `observations2`
abbrev pub IsOurView : View → Type 0
IsOurView v = (v.name ≡ second_form.name) × (v.sql ≡ view_text) × (v.foreign ≡ None)

-- `observations2` stands, and a foreign key acts where a row of it is deleted
abbrev pub acts_on_former : Schema → Bool
acts_on_former schema = is_named schema second_form && is_acted_on schema Enforced (table_of second_form 0)

-- no row of a table goes with `observations2`: no foreign key acts there, or the table has none
abbrev pub IsSpared : Schema → Table → Type 0
IsSpared schema t = (acts_on_former schema ≡ false) ⊎ AllByRecursion (IsChildless t.tree) schema.tables

-- Each table but `observations2` stands as it stood, with its rows and indexes, and each view. What comes is ours.
pub record LeavesOthers (old new : Database) : Type 0 where
  pub more : List Table
  pub tables : new.schema.tables ≡ other_tables old.schema ++ more
  pub added : AllByRecursion IsAdded more
  pub further : List Index
  pub indexes : new.schema.indexes ≡ other_indexes old.schema ++ further
  pub our_views : List View
  pub views : new.schema.views ≡ old.schema.views ++ our_views
  pub viewed : AllByRecursion IsOurView our_views
  pub rows : AllByRecursion (λ (t : Table). IsSpared old.schema t → new.trees t.tree ≡ old.trees t.tree) (other_tables old.schema)

-- ---- after

-- the tables stand, and tell the same rows, wherever these stood; what is not ours is left alone, and a database that obeyed its schema does
pub record IsMade (old new : Database) : Type 0 where
  pub tables : HasTables new
  pub tells : rows_of new ≡ rows_of old
  pub others : LeavesOthers old new
  pub sound : IsDatabase old → IsDatabase new

-- ---- within a transaction

pub record Inside (Changes : Database → Database → Type 0) (old new : State) : Type 0 where
  pub mode : IsTrue new.in_transaction
  pub was_open : IsTrue old.is_open
  pub committed : new.committed ≡ old.committed
  pub changes : Changes old.now new.now
