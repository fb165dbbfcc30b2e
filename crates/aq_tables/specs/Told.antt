-- What the tables say, as the book's rows in the order of their keys, and what a statement does to that.
use Rattle.std.specs.Prelude.{◌≡◌, ◌≢◌, ℕ, ℤ, Bool, true, false, List, [], ◌∷◌, ◌++◌, map, slice_get, Some, IsTrue, Option, None, Ok}
use Rattle.std.specs.List.{AllByRecursion}
use Rattle.sqlite.specs.declared.types.Value.{Value}
use Rattle.sqlite.specs.declared.types.Value.TheVariants.{Null, Int, Real, Text, Blob}
use Rattle.sqlite.specs.Order.{Row}
use Rattle.sqlite.specs.Table.{Table}
use Rattle.sqlite.specs.Effect.{Database, IsDatabase}
use Rattle.sqlite.specs.State.{State, ExecutesInside}
use Rattle.sqlite_value.specs.Order.{column, bytes}
use Rattle.sqlite_sql.specs.Numeral.{fits_i64}
use Rattle.sqlite_rules.specs.Edit.{id_in}
use Rattle.aq_rules.specs.Kept.Rows as the_rows
use Rattle.aq_rules.specs.Kept.Rows.{OfficeRow, ObsRow, ObsRow2, LoadRow, OfOfficeRow, OfObsRow, OfLoadRow, OfSecondRow}
use Rattle.aq_rules.specs.Kept.RowChanges.{RowKey, OfficeRowKey, ObsRowKey, LoadRowKey, SecondRowKey, row_key, is_same_row_key, put_row}
use Rattle.aq_tables.specs.Number.{number_at, site_in, pollutant_in, poc_in, hour_in}
use Rattle.aq_tables.specs.Forms.{records_form, observations_form, loads_form, second_form, third_form}
use Rattle.aq_tables.specs.Standing.{Ours, HasTable, IsChildless}
use Rattle.aq_tables.specs.declared.reading.Table.{Table as Which}
use Rattle.aq_tables.specs.declared.reading.Table.TheVariants.{Records, Observations, Loads, Second, Third}

-- rows in the order of their keys: each is put into those that follow
abbrev pub in_order : List the_rows.Row → List the_rows.Row
in_order [] = []
in_order (row ∷ rows) = put_row row (in_order rows)

-- what the rows of a tree say
abbrev pub told : Ours → List Row → List the_rows.Row
told ours rows = in_order (map ours.says rows)

-- no row has the key
abbrev pub HaveNot : RowKey → List the_rows.Row → Type 0
HaveNot key rows = AllByRecursion (λ (row : the_rows.Row). is_same_row_key (row_key row) key ≡ false) rows

-- What a statement does to a table: it says other rows, and each other table without foreign keys has the rows that it had; if the database obeyed its schema, it does.
pub record Turns (ours : Ours) (change : List the_rows.Row → List the_rows.Row) (old new : Database) (at tree : ℕ) : Type 0 where
  pub schema : new.schema ≡ old.schema
  pub has : HasTable ours new at tree
  pub told_is : told ours (new.trees tree) ≡ change (told ours (old.trees tree))
  pub others : (place : ℕ) (t : Table) → slice_get old.schema.tables place ≡ Some t → t.tree ≢ tree → AllByRecursion (IsChildless t.tree) old.schema.tables → new.trees t.tree ≡ old.trees t.tree
  pub sound : IsDatabase old → IsDatabase new

-- a statement ran within the transaction
abbrev pub Runs : List ℕ → Row → State → State → Type 0
Runs text params old new = (count : ℕ) × ExecutesInside 0 text params old new (Ok count)

-- a row is put within the transaction, if the table stands and none has its key
pub record Puts (ours : Ours) (row : the_rows.Row) (old new : State) : Type 0 where
  pub was_open : IsTrue old.is_open
  pub mode : IsTrue new.in_transaction
  pub committed : new.committed ≡ old.committed
  pub turns : (at tree : ℕ) → HasTable ours old.now at tree → HaveNot (row_key row) (told ours (old.now.trees tree)) → Turns ours (put_row row) old.now new.now at tree

-- rows were read after those that were there: all that the table says, in its order
abbrev pub Reads : Ours → Database → List the_rows.Row → List the_rows.Row → Type 0
Reads ours db before after = (at tree : ℕ) → HasTable ours db at tree → after ≡ before ++ told ours (db.trees tree)

-- any rowid
abbrev pub any_rowid : ℤ → Bool
any_rowid id = true

-- ---- records

-- what a row of `records` says, and what an answer shows
abbrev pub record_said : Row → the_rows.Row
record_said r = OfOfficeRow (record { kind = id_in (column r 1); key = bytes (column r 2); line = bytes (column r 3) })

abbrev pub record_shown : Row → the_rows.Row
record_shown r = OfOfficeRow (record { kind = id_in (column r 0); key = bytes (column r 1); line = bytes (column r 2) })

abbrev pub record_stored : ℤ → OfficeRow → Row
record_stored id row = Int id ∷ Int row.kind ∷ Text row.key ∷ Text row.line ∷ []

abbrev pub stored_record : ℤ → the_rows.Row → Row
stored_record id (OfOfficeRow row) = record_stored id row
stored_record id row = []

-- as the statement takes it
abbrev pub record_values : OfficeRow → Row
record_values row = Int row.kind ∷ Text row.key ∷ Text row.line ∷ []

abbrev pub records : Ours
records = record { form = records_form; says = record_said; stored = stored_record; fits = any_rowid }

-- ---- a number that may be missing

abbrev pub optional : Value → Option ℤ
optional Null = None
optional (Int n) = Some n
optional (Real x) = None
optional (Text t) = None
optional (Blob b) = None

abbrev pub cell : Option ℤ → Value
cell None = Null
cell (Some n) = Int n

-- ---- observations

abbrev pub observation_said : Row → the_rows.Row
observation_said r = OfObsRow (record { site = id_in (column r 1); pollutant = id_in (column r 2); poc = id_in (column r 3); hour = id_in (column r 4); value = optional (column r 5); null = bytes (column r 6); quals = bytes (column r 7) })

abbrev pub observation_shown : Row → the_rows.Row
observation_shown r = OfObsRow (record { site = id_in (column r 0); pollutant = id_in (column r 1); poc = id_in (column r 2); hour = id_in (column r 3); value = optional (column r 4); null = bytes (column r 5); quals = bytes (column r 6) })

abbrev pub observation_stored : ℤ → ObsRow → Row
observation_stored id row = Int id ∷ Int row.site ∷ Int row.pollutant ∷ Int row.poc ∷ Int row.hour ∷ cell row.value ∷ Text row.null ∷ Text row.quals ∷ []

abbrev pub stored_observation : ℤ → the_rows.Row → Row
stored_observation id (OfObsRow row) = observation_stored id row
stored_observation id row = []

abbrev pub observation_values : ObsRow → Row
observation_values row = Int row.site ∷ Int row.pollutant ∷ Int row.poc ∷ Int row.hour ∷ cell row.value ∷ Text row.null ∷ Text row.quals ∷ []

abbrev pub observations : Ours
observations = record { form = observations_form; says = observation_said; stored = stored_observation; fits = any_rowid }

-- ---- observations2

abbrev pub second_said : Row → the_rows.Row
second_said r = OfSecondRow (record { site = id_in (column r 1); pollutant = id_in (column r 2); poc = id_in (column r 3); hour = id_in (column r 4); value = optional (column r 5); method = optional (column r 6); null = bytes (column r 7); quals = bytes (column r 8) })

abbrev pub second_shown : Row → the_rows.Row
second_shown r = OfSecondRow (record { site = id_in (column r 0); pollutant = id_in (column r 1); poc = id_in (column r 2); hour = id_in (column r 3); value = optional (column r 4); method = optional (column r 5); null = bytes (column r 6); quals = bytes (column r 7) })

abbrev pub second_stored : ℤ → ObsRow2 → Row
second_stored id row = Int id ∷ Int row.site ∷ Int row.pollutant ∷ Int row.poc ∷ Int row.hour ∷ cell row.value ∷ cell row.method ∷ Text row.null ∷ Text row.quals ∷ []

abbrev pub stored_second : ℤ → the_rows.Row → Row
stored_second id (OfSecondRow row) = second_stored id row
stored_second id row = []

abbrev pub second : Ours
second = record { form = second_form; says = second_said; stored = stored_second; fits = any_rowid }

-- ---- observations3

-- what a row of `observations3` says, whose rowid is the number of its key, and what an answer shows
abbrev pub observation_with : ℤ → Option ℤ → Option ℤ → List ℕ → List ℕ → ObsRow2
observation_with number value method null quals = record { site = site_in number; pollutant = pollutant_in number; poc = poc_in number; hour = hour_in number; value = value; method = method; null = null; quals = quals }

abbrev pub third_said : Row → the_rows.Row
third_said r = OfSecondRow (observation_with (id_in (column r 0)) (optional (column r 2)) (optional (column r 3)) (bytes (column r 4)) (bytes (column r 5)))

abbrev pub third_shown : Row → the_rows.Row
third_shown r = OfSecondRow (observation_with (id_in (column r 0)) (optional (column r 1)) (optional (column r 2)) (bytes (column r 3)) (bytes (column r 4)))

-- the column that is the rowid stands as Null
abbrev pub third_stored : ℤ → ObsRow2 → Row
third_stored id row = Int id ∷ Null ∷ cell row.value ∷ cell row.method ∷ Text row.null ∷ Text row.quals ∷ []

abbrev pub stored_third : ℤ → the_rows.Row → Row
stored_third id (OfSecondRow row) = third_stored id row
stored_third id row = []

-- the number of an observation's key, if it has one
abbrev pub number_of : ObsRow2 → Option ℤ
number_of row = number_at row.site row.pollutant row.poc row.hour

-- as the statement takes it; it is not put if its key has no number
abbrev pub third_values : ObsRow2 → Row
third_values row = cell (number_of row) ∷ cell row.value ∷ cell row.method ∷ Text row.null ∷ Text row.quals ∷ []

abbrev pub third : Ours
third = record { form = third_form; says = third_said; stored = stored_third; fits = fits_i64 }

-- ---- loads

-- what a row of `loads` says, and what an answer shows
abbrev pub load_said : Row → the_rows.Row
load_said r = OfLoadRow (record { number = id_in (column r 0); digest = bytes (column r 2); lines = id_in (column r 3); accepted = id_in (column r 4); listed = bytes (column r 5); rest = bytes (column r 6) })

abbrev pub load_shown : Row → the_rows.Row
load_shown r = OfLoadRow (record { number = id_in (column r 0); digest = bytes (column r 1); lines = id_in (column r 2); accepted = id_in (column r 3); listed = bytes (column r 4); rest = bytes (column r 5) })

-- the column that is the rowid stands as Null
abbrev pub load_stored : LoadRow → Row
load_stored row = Int row.number ∷ Null ∷ Blob row.digest ∷ Int row.lines ∷ Int row.accepted ∷ Text row.listed ∷ Text row.rest ∷ []

abbrev pub stored_load : ℤ → the_rows.Row → Row
stored_load id (OfLoadRow row) = load_stored row
stored_load id row = []

-- as the statement takes it
abbrev pub load_values : LoadRow → Row
load_values row = Int row.number ∷ Blob row.digest ∷ Int row.lines ∷ Int row.accepted ∷ Text row.listed ∷ Text row.rest ∷ []

abbrev pub loads : Ours
loads = record { form = loads_form; says = load_said; stored = stored_load; fits = any_rowid }

-- ---- the tables

abbrev pub ours_of : Which → Ours
ours_of Records = records
ours_of Observations = observations
ours_of Loads = loads
ours_of Second = second
ours_of Third = third

-- the same of each of them
pub record OfEach (Holds : Which → Type 0) : Type 0 where
  pub of_records : Holds Records
  pub of_observations : Holds Observations
  pub of_loads : Holds Loads
  pub of_second : Holds Second
  pub of_third : Holds Third

-- the key as a statement takes it: NULL, which no row has, for one without a number
abbrev pub key_values : RowKey → Row
key_values (OfficeRowKey kind key) = Int kind ∷ Text key ∷ []
key_values (ObsRowKey site pollutant poc hour) = Int site ∷ Int pollutant ∷ Int poc ∷ Int hour ∷ []
key_values (LoadRowKey number) = Int number ∷ []
key_values (SecondRowKey site pollutant poc hour) = cell (number_at site pollutant poc hour) ∷ []

abbrev pub row_values : the_rows.Row → Row
row_values (OfOfficeRow row) = record_values row
row_values (OfObsRow row) = observation_values row
row_values (OfLoadRow row) = load_values row
row_values (OfSecondRow row) = third_values row
