-- Why a call is refused: memory was wanting, the store failed, the connection was shut before, or what else the call names.
use Rattle.std.specs.Prelude.{◌≡◌, ◌≢◌, ◌⊎◌, ◌≤◌, ◌&&◌, ◌+◌, ◌-◌, ◌^◌, ℕ, pos, Bool, true, false, not, List, [], ◌∷◌, ◌++◌, length, slice_get, flat_map, min, is_some, Option, Some, None, Result, Ok, Err, if◌then◌else◌, IsTrue, MatchBool}
use Rattle.sqlite.specs.Schema.{Schema}
use Rattle.sqlite_trees.specs.declared.store.Store.{Ghosts}
use Rattle.sqlite_schema.specs.Names.{table_named}
use Rattle.sqlite_resolve.specs.declared.compiled.Compiled.{Compiled}
use Rattle.sqlite_resolve.specs.declared.error.CompileError.{CompileError}
use Rattle.sqlite.specs.declared.types.Value.{Value}
use Rattle.sqlite.specs.declared.types.Value.TheVariants.{Null, Int, Text, Blob}
use Rattle.sqlite_value.specs.Order.{column}
use Rattle.sqlite_trees.specs.View.{is_int}
use Rattle.sqlite.specs.declared.error.Error.{Error}
use Rattle.sqlite.specs.declared.error.Error.TheVariants.{SqliteFailure}
use Rattle.sqlite.specs.declared.error.ErrorCode.TheVariants.{ConstraintViolation, OutOfMemory}
use Rattle.sqlite.specs.Order.{Row}
use Rattle.sqlite.specs.Effect.{Database, ReadsFirst, RefusesToRead}
use Rattle.sqlite.specs.Does.{Does}
use Rattle.sqlite.specs.Clock.{timed}
use Rattle.sqlite.specs.Listing.{understood, reads_listing, IsSourceOf}
use Rattle.sqlite.specs.State.{State, Escapes, IsMisplaced, IsNoStatement, IsStatement, mode_of, shows_rows, text_of}
use Rattle.sqlite.specs.Held.{Held, state}
use Rattle.aq_rules.specs.Kept.Rows as the_rows
use Rattle.aq_rules.specs.Kept.Rows.{ObsRow2}
use Rattle.aq_rules.specs.Kept.RowChanges.{RowKey, SecondRowKey, RowChange, PutRow, DropRow, row_key}
use Rattle.aq_tables.specs.declared.reading.Table.{Table as Which}
use Rattle.aq_tables.specs.declared.reading.Table.TheVariants.{Records, Observations, Loads, Second, Third}
use Rattle.aq_tables.specs.Forms.{observations_form}
use Rattle.aq_tables.specs.Told.{key_values, row_values, third_values}
use Rattle.aq_tables.specs.Texts.{drop_text, put_text, read_text}
use Rattle.aq_tables.specs.Sixteen.{AreNumbered, put_sixteen, puts_of}
use Rattle.aq_tables.specs.Batch.{Changes, DropsKey, IsNumbered, is_of_first}

-- the count of the store's faults rose, unless it is at the top of a `u64`
abbrev pub MoreFaults : ℕ → ℕ → Type 0
MoreFaults old new = min (old + 1) (2 ^ 64 - 1) ≤ new

-- an error came of want of memory, of a fault of the store, of a connection that was shut, or of what else is named
abbrev pub IsCaused : (Error → Type 0) → State → State → Error → Type 0
IsCaused Else old new e = (e ≡ SqliteFailure OutOfMemory) ⊎ (MoreFaults old.faults new.faults ⊎ ((old.is_open ≡ false) ⊎ Else e))

-- a transaction was open already, or what else is named
abbrev pub OrBegun : State → (Error → Type 0) → Error → Type 0
OrBegun old Else e = IsTrue old.in_transaction ⊎ Else e

-- ---- a statement is refused, without a fault

-- Its command is not run: it shows rows, stands in a wrong place or would end the transaction, the database refuses it, or what it writes is too long.
abbrev pub RefusesCommand : State → List ℕ → Compiled → Row → Error → Type 0
RefusesCommand s text c values e =
    IsTrue (shows_rows false c)
    ⊎ (IsMisplaced s c.command e
    ⊎ (Escapes 0 s c.command
    ⊎ (Does s.step_limit (mode_of s) values s.now (text_of text c) c.returning c.command (Err (Some e))
    ⊎ Does s.step_limit (mode_of s) values s.now (text_of text c) c.returning c.command (Err None))))

-- the text is no statement over the schema, or its command is not run
unfoldable pub Refuses : List ℕ → Row → State → Error → Type 0
Refuses text values s e =
    IsNoStatement s text values e
    ⊎ ((c : Compiled) × (it : IsStatement s text values c) × RefusesCommand s text c (timed values c.formats it.now) e)

-- ---- a batch is refused

-- a DELETE that finds no row
abbrev pub nothing_text : List ℕ
nothing_text = drop_text (SecondRowKey (pos 0) (pos 0) (pos 0) (pos 0))

-- the DELETE of a key is refused
abbrev pub RefusesDrop : Bool → RowKey → State → Error → Type 0
RefusesDrop first key s e = MatchBool (is_of_first key && not first) (Refuses nothing_text (Null ∷ []) s e) (Refuses (drop_text key) (key_values key) s e)

-- a row is not put: its key has no number, its table is missing, or its INSERT is refused
abbrev pub RefusesPut : Bool → the_rows.Row → State → Error → Type 0
RefusesPut first row s e =
    (IsNumbered (PutRow row) → ⊥)
    ⊎ (((is_of_first (row_key row) ≡ true) × (first ≡ false)) ⊎ Refuses (put_text (row_key row)) (row_values row) s e)

-- a statement is against a rule of its table, as where its key stands
abbrev pub is_clash : Error → Bool
is_clash (SqliteFailure (ConstraintViolation rule)) = true
is_clash _ = false

abbrev pub unless_clash : Error → Result Bool Error
unless_clash e = if is_clash e then Ok false else Err e

-- observations are not put by one INSERT, and not for the reason that one of them stands
abbrev pub RefusesPuts : List ObsRow2 → State → Error → Type 0
RefusesPuts rows s e = Refuses put_sixteen (flat_map third_values rows) s e × (is_clash e ≡ false)

abbrev pub RefusesSixteen : List RowChange → State → Error → Type 0
RefusesSixteen changes s e = (rows : List ObsRow2) × (changes ≡ puts_of rows) × AreNumbered rows × RefusesPuts rows s e

module _ {S : Type 0} (g : Ghosts S) (first : Bool) where
  -- a key is not dropped, or a row is not put behind the drop of its key
  abbrev pub RefusesChange : RowChange → Held S → Error → Type 0
  RefusesChange (DropRow key) old e = RefusesDrop first key (state g old) e
  RefusesChange (PutRow row) old e =
      RefusesDrop first (row_key row) (state g old) e
      ⊎ ((mid : Held S) × (mid.step_limit ≡ old.step_limit) × DropsKey first (row_key row) (state g old) (state g mid) × RefusesPut first row (state g mid) e)

  -- one change, or sixteen
  abbrev pub RefusesSome : List RowChange → Held S → Error → Type 0
  RefusesSome some old e = RefusesSixteen some (state g old) e ⊎ ((change : RowChange) × (some ≡ change ∷ []) × RefusesChange change old e)

  -- the changes before were made, and these are refused
  pub record RefusesWithin (batch : List RowChange) (old : Held S) (e : Error) : Type 0 where
    pub before : List RowChange
    pub some : List RowChange
    pub after : List RowChange
    pub are : before ++ some ++ after ≡ batch
    pub mid : Held S
    pub limit : mid.step_limit ≡ old.step_limit
    pub made : Changes first before (state g old) (state g mid)
    pub refused : RefusesSome some mid e

  -- the same, or there is no change, and the statement is refused that drops nothing
  abbrev pub RefusesBatch : List RowChange → Held S → Error → Type 0
  RefusesBatch batch old e = RefusesWithin batch old e ⊎ ((batch ≡ []) × Refuses nothing_text (Null ∷ []) (state g old) e)

-- a batch is refused that a connection is given, within the transaction that it begins
abbrev pub RefusesCommit : {S : Type 0} → Ghosts S → List RowChange → Held S → Error → Type 0
RefusesCommit g batch old = RefusesBatch g (is_some (table_named old.schema observations_form.name)) batch (record old { in_transaction = true })

-- ---- an answer is refused

-- a text without parameters is none over the schema, or it cannot be read
abbrev pub RefusesRead : List ℕ → Option ℕ → Database → Error → Type 0
RefusesRead text limit db e =
    ((fault : CompileError) × (understood db.schema text ≡ Err fault))
    ⊎ ((c : Compiled) × (understood db.schema text ≡ Ok c)
    × ((¬ (length text ≤ c.tail)) ⊎ ((0 ≢ length c.names) ⊎ ((source : Database) × IsSourceOf (reads_listing db.schema text) db source × RefusesToRead limit c.command source [] e))))

-- an answer begins with these rows
abbrev pub Begins : List ℕ → Database → List Row → Type 0
Begins text db rows = (c : Compiled) × (understood db.schema text ≡ Ok c) × (source : Database) × IsSourceOf (reads_listing db.schema text) db source × ReadsFirst c.command source [] rows

-- it has more rows than are counted
abbrev pub IsEndless : List ℕ → Database → Type 0
IsEndless text db = (rows : List Row) × Begins text db rows × (length rows ≡ 2 ^ 64 - 1)

abbrev pub is_text : Value → Bool
is_text (Text t) = true
is_text _ = false

abbrev pub is_blob : Value → Bool
is_blob (Blob b) = true
is_blob _ = false

abbrev pub is_cell : Value → Bool
is_cell Null = true
is_cell (Int n) = true
is_cell _ = false

-- what the columns of an answer about a table are
abbrev pub kinds_of : Which → List (Value → Bool)
kinds_of Records = is_int ∷ is_text ∷ is_text ∷ []
kinds_of Observations = is_int ∷ is_int ∷ is_int ∷ is_int ∷ is_cell ∷ is_text ∷ is_text ∷ []
kinds_of Loads = is_int ∷ is_blob ∷ is_int ∷ is_int ∷ is_text ∷ is_text ∷ []
kinds_of Second = is_int ∷ is_int ∷ is_int ∷ is_int ∷ is_cell ∷ is_cell ∷ is_text ∷ is_text ∷ []
kinds_of Third = is_int ∷ is_cell ∷ is_cell ∷ is_text ∷ is_text ∷ []

-- a column is missing, or of another kind
abbrev pub IsUnfit : (Value → Bool) → Row → ℕ → Type 0
IsUnfit fits row at = (length row ≤ at) ⊎ (fits (column row at) ≡ false)

abbrev pub IsOther : Which → Row → Type 0
IsOther table row = (at : ℕ) × (fits : Value → Bool) × (slice_get (kinds_of table) at ≡ Some fits) × IsUnfit fits row at

-- an answer shows a row that a table of ours does not have
abbrev pub ShowsOther : Which → List ℕ → Database → Type 0
ShowsOther table text db = (rows : List Row) × (row : Row) × Begins text db (rows ++ row ∷ []) × IsOther table row

-- a text is not read to its end as an answer about a table
abbrev pub RefusesAnswer : Which → List ℕ → State → Error → Type 0
RefusesAnswer table text s e = RefusesRead text s.step_limit s.now e ⊎ (ShowsOther table text s.now ⊎ IsEndless text s.now)

-- whether a table is read: that of version 1 where it stands, and those of today
abbrev pub is_read : Schema → Which → Bool
is_read schema Records = true
is_read schema Observations = is_some (table_named schema observations_form.name)
is_read schema Loads = true
is_read schema Second = false
is_read schema Third = true

-- one of them is not
abbrev pub RefusesRows : State → Error → Type 0
RefusesRows s e = (table : Which) × IsTrue (is_read s.now.schema table) × RefusesAnswer table (read_text table) s e
