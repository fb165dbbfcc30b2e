-- Changes of rows, as a keeper takes them: a row put, or one dropped by its key; and the batch of a load as such changes (own).
use Rattle.std.specs.Prelude.{◌≡◌, ℕ, Bool, true, false, not, ◌&&◌, ◌||◌, int_lt, if◌then◌else◌, Option, Some, IsSome, List, [], ◌∷◌, map, find, filter, fold, get_or, codes, ℤ, pos}
use Rattle.std.specs.Ordering.{int_eq}
use lib.Pointwise.{pointwise}
use Rattle.aq_base.specs.declared.observation.ObsKey.{ObsKey}
use Rattle.aq_base.specs.declared.office.OfficeKey.{OfficeKey}
use Rattle.aq_rules.specs.Lines.Canonical.{printed_key}
use Rattle.aq_rules.specs.Office.Office.{Office, kind_of, pollutant_number}
use Rattle.aq_rules.specs.Office.Load.{OfficeChange, PutRecord, DropRecord, PutObservation, DropObservation, PutLoad, batch, load}
use Rattle.aq_rules.specs.Kept.Rows.{Row, OfOfficeRow, OfObsRow, OfLoadRow, OfSecondRow, office_row, obs_row, load_row, rows_of, site_key, stored_hour}

-- the tables' names, by number from 0
abbrev pub table_names : List (List ℕ)
table_names = codes "records" ∷ codes "observations" ∷ codes "loads" ∷ codes "observations3" ∷ []

abbrev pub table_name : ℕ → List ℕ
table_name table = get_or table_names table []

-- ---- keys

pub data RowKey : Type 0 where
  OfficeRowKey : (kind : ℤ) (key : List ℕ) → RowKey
  ObsRowKey : (site pollutant poc hour : ℤ) → RowKey
  LoadRowKey : (number : ℤ) → RowKey
  SecondRowKey : (site pollutant poc hour : ℤ) → RowKey

abbrev pub row_key : Row → RowKey
row_key (OfOfficeRow row) = OfficeRowKey row.kind row.key
row_key (OfObsRow row) = ObsRowKey row.site row.pollutant row.poc row.hour
row_key (OfLoadRow row) = LoadRowKey row.number
row_key (OfSecondRow row) = SecondRowKey row.site row.pollutant row.poc row.hour

-- a key as numbers: its table and its columns, a text by its bytes
abbrev pub columns : RowKey → List ℤ
columns (OfficeRowKey kind key) = pos 0 ∷ kind ∷ map pos key
columns (ObsRowKey site pollutant poc hour) = pos 1 ∷ site ∷ pollutant ∷ poc ∷ hour ∷ []
columns (LoadRowKey number) = pos 2 ∷ number ∷ []
columns (SecondRowKey site pollutant poc hour) = pos 3 ∷ site ∷ pollutant ∷ poc ∷ hour ∷ []

-- the first number in which they differ decides, and else a shorter list comes first
abbrev pub columns_before : List ℤ → List ℤ → Bool
columns_before xs [] = false
columns_before [] (y ∷ ys) = true
columns_before (x ∷ xs) (y ∷ ys) = int_lt x y || (int_eq x y && columns_before xs ys)

-- rows are in order of tables and keys
abbrev pub key_before : RowKey → RowKey → Bool
key_before a b = columns_before (columns a) (columns b)

abbrev pub is_same_row_key : RowKey → RowKey → Bool
is_same_row_key a b = pointwise int_eq (columns a) (columns b)

-- keys in order, none twice
abbrev pub keys_rise_from : RowKey → List RowKey → Bool
keys_rise_from first [] = true
keys_rise_from first (key ∷ keys) = key_before first key && keys_rise_from key keys

abbrev pub keys_rise : List RowKey → Bool
keys_rise [] = true
keys_rise (key ∷ keys) = keys_rise_from key keys

-- In a batch the loads come last. A key as numbers, with the place of its table in a batch
abbrev pub batch_columns : RowKey → List ℤ
batch_columns (LoadRowKey number) = pos 4 ∷ number ∷ []
batch_columns key = columns key

abbrev pub batch_before : RowKey → RowKey → Bool
batch_before a b = columns_before (batch_columns a) (batch_columns b)

-- keys in the order of a batch, none twice
abbrev pub batch_rises_from : RowKey → List RowKey → Bool
batch_rises_from first [] = true
batch_rises_from first (key ∷ keys) = batch_before first key && batch_rises_from key keys

abbrev pub batch_rises : List RowKey → Bool
batch_rises [] = true
batch_rises (key ∷ keys) = batch_rises_from key keys

-- the row with this key
abbrev pub row_with : RowKey → List Row → Option Row
row_with key rows = find (λ row. is_same_row_key (row_key row) key) rows

-- ---- changes

pub data RowChange : Type 0 where
  PutRow : (row : Row) → RowChange
  DropRow : (key : RowKey) → RowChange

abbrev pub changed_key : RowChange → RowKey
changed_key (PutRow row) = row_key row
changed_key (DropRow key) = key

-- the rows with this one at its place, if it takes the place of one with its key
abbrev pub put_row : Row → List Row → List Row
put_row row [] = row ∷ []
put_row row (first ∷ rows) =
    if key_before (row_key row) (row_key first) then row ∷ first ∷ rows
    else (if is_same_row_key (row_key row) (row_key first) then row ∷ rows else first ∷ put_row row rows)

abbrev pub drop_row : RowKey → List Row → List Row
drop_row key rows = filter (λ row. not (is_same_row_key (row_key row) key)) rows

abbrev pub with_row_change : List Row → RowChange → List Row
with_row_change rows (PutRow row) = put_row row rows
with_row_change rows (DropRow key) = drop_row key rows

-- the rows with all of these changes, one after the other
abbrev pub with_row_changes : List Row → List RowChange → List Row
with_row_changes rows changes = fold with_row_change rows changes

-- whether a change changes these rows: a put if this row does not stand, a drop if one stands at the key
abbrev pub Alters : List Row → RowChange → Type 0
Alters rows (PutRow row) = row_with (row_key row) rows ≡ Some row → ⊥
Alters rows (DropRow key) = IsSome (row_with key rows)

-- ---- the batch of a load

abbrev pub office_row_key : OfficeKey → RowKey
office_row_key key = OfficeRowKey (pos (kind_of key)) (printed_key key)

abbrev pub obs_row_key : ObsKey → RowKey
obs_row_key key =
    SecondRowKey (pos (site_key key.monitor.site)) (pos (pollutant_number key.monitor.pollutant)) (pos key.monitor.poc) (stored_hour key.hour)

-- the change of rows that a change of the office's lists stands for
abbrev pub row_change : OfficeChange → RowChange
row_change (PutRecord r) = PutRow (OfOfficeRow (office_row r))
row_change (DropRecord key) = DropRow (office_row_key key)
row_change (PutObservation key content) = PutRow (OfSecondRow (obs_row (key, content)))
row_change (DropObservation key) = DropRow (obs_row_key key)
row_change (PutLoad load) = PutRow (OfLoadRow (load_row load))

-- the batch of a load, as its keeper takes it: one change for each key whose row differs, of records and then of observations, by key, and the load's row last
unfoldable pub row_batch : Office → ℕ → List ℕ → List ℕ → List RowChange
row_batch office number digest body = map row_change (batch office number digest body)

-- the batch, done to the rows of the office, gives the rows of the office after the load
unfoldable pub GivesRowsAfter : Office → ℕ → List ℕ → List ℕ → Type 0
GivesRowsAfter office number digest body =
    with_row_changes (rows_of office) (row_batch office number digest body) ≡ rows_of (load office number digest body)
