-- The tables of a database, and the rows that they tell.
use Rattle.std.specs.Prelude.{◌≡◌, ◌⊎◌, ℕ, List, [], ◌++◌, Option, None, slice_get}
use Rattle.std.specs.Option.{option_map, option_map_or, option_and_then}
use Rattle.sqlite.specs.Schema.{Schema}
use Rattle.sqlite.specs.Table.{Table}
use Rattle.sqlite.specs.Effect.{Database}
use Rattle.sqlite_schema.specs.Names.{table_named}
use Rattle.aq_rules.specs.Kept.Rows as the_rows
use Rattle.aq_tables.specs.Forms.{second_form}
use Rattle.aq_tables.specs.Standing.{Ours, HasTable}
use Rattle.aq_tables.specs.Told.{told, records, observations, loads, second, third}

-- the tree of the table that a name stands for
abbrev pub tree_named : Schema → List ℕ → Option ℕ
tree_named schema name = option_map (λ (t : Table). t.tree) (option_and_then (slice_get schema.tables) (table_named schema name))

-- what one of the tables tells, and nothing if it is missing
abbrev pub rows_in : Ours → Database → List the_rows.Row
rows_in ours db = option_map_or (λ tree. told ours (db.trees tree)) (tree_named db.schema ours.form.name) []

-- the observations: those of `observations2` or of `observations3`, of which an office has one
abbrev pub observations_in : Database → List the_rows.Row
observations_in db = rows_in second db ++ rows_in third db

-- what the tables tell, in their order
abbrev pub rows_of : Database → List the_rows.Row
rows_of db = rows_in records db ++ rows_in observations db ++ rows_in loads db ++ observations_in db

-- one of the tables stands, with its rows
pub record HasOurs (ours : Ours) (db : Database) : Type 0 where
  pub at : ℕ
  pub tree : ℕ
  pub has : HasTable ours db at tree

-- the same, or no table has the name
abbrev pub MayHave : Ours → Database → Type 0
MayHave ours db = (table_named db.schema ours.form.name ≡ None) ⊎ HasOurs ours db

-- the tables of an office that is prepared; what version 1 kept may stand beside them
pub record HasTables (db : Database) : Type 0 where
  pub of_records : HasOurs records db
  pub of_observations : MayHave observations db
  pub of_loads : HasOurs loads db
  pub of_third : HasOurs third db
  pub no_second : table_named db.schema second_form.name ≡ None
