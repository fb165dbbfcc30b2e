-- Rows whose keys rise, by recursion, and what is of one table.
use Rattle.std.specs.Prelude.{◌≡◌, ℕ, ◌==◌, true, false, if◌then◌else◌, List, [], ◌∷◌, map, filter}
use Rattle.std.specs.List.{AllByRecursion}
use Rattle.aq_rules.specs.Kept.Rows.{Row}
use Rattle.aq_rules.specs.Kept.RowChanges.{RowKey, RowChange, row_key, changed_key, key_before, is_same_row_key, PutRow, DropRow}
use Rattle.aq_keeper.specs.KeyView.{table_of_key}

-- all rows come before a key
abbrev pub AreBefore : RowKey → List Row → Type 0
AreBefore key rows = AllByRecursion (λ row. key_before (row_key row) key ≡ true) rows

-- all keys come after a key
abbrev pub AreBehind : RowKey → List RowKey → Type 0
AreBehind key keys = AllByRecursion (λ other. key_before key other ≡ true) keys

-- each key comes before all that follow
abbrev pub Rise : List RowKey → Type 0
Rise [] = Unit {0}
Rise (key ∷ keys) = AreBehind key keys × Rise keys

-- keys of rows
abbrev pub keys_of_rows : List Row → List RowKey
keys_of_rows rows = map row_key rows

-- the first row, if there is one, does not come before a key
abbrev pub StartsFrom : RowKey → List Row → Type 0
StartsFrom key [] = Unit {0}
StartsFrom key (row ∷ rows) = key_before (row_key row) key ≡ false

-- the rows without the first, if it has this key
abbrev pub without_first : RowKey → List Row → List Row
without_first key [] = []
without_first key (row ∷ rows) = if is_same_row_key (row_key row) key then rows else row ∷ rows

-- the row that a change puts
abbrev pub put_rows : RowChange → List Row
put_rows (PutRow row) = row ∷ []
put_rows (DropRow key) = []

-- all rows are of a table
abbrev pub AreIn : ℕ → List Row → Type 0
AreIn table rows = AllByRecursion (λ row. table_of_key (row_key row) ≡ table) rows

-- the rows of a table, of which the keys rise
abbrev pub IsTable : ℕ → List Row → Type 0
IsTable table rows = AreIn table rows × Rise (keys_of_rows rows)

-- the changes that are of a table
abbrev pub changes_in : ℕ → List RowChange → List RowChange
changes_in table changes = filter (λ change. table_of_key (changed_key change) == table) changes
