-- The rows of loads among the rows of a keeper.
use Rattle.std.specs.Prelude.{◌≡◌, ℤ, false, List, [], ◌∷◌, ◌++◌, Option, Some, None}
use Rattle.std.specs.List.{AllByRecursion}
use Rattle.aq_rules.specs.Kept.Rows.{Row, LoadRow, OfLoadRow}
use Rattle.aq_rules.specs.Kept.RowChanges.{RowChange, LoadRowKey, PutRow, changed_key, is_same_row_key, row_with}
use Rattle.aq_tables.specs.Crash.{Attempt}

-- the row of a load stands
abbrev pub HasLoad : LoadRow → List Row → Type 0
HasLoad row rows = row_with (LoadRowKey row.number) rows ≡ Some (OfLoadRow row)

-- a batch with the row of a load behind it
abbrev pub with_load : List RowChange → LoadRow → List RowChange
with_load batch row = batch ++ PutRow (OfLoadRow row) ∷ []

-- a batch that has no change of the load with this number
abbrev pub Spares : ℤ → List RowChange → Type 0
Spares number = AllByRecursion (λ change. is_same_row_key (changed_key change) (LoadRowKey number) ≡ false)

abbrev pub SparesCall : ℤ → Option Attempt → Type 0
SparesCall number (Some attempt) = Spares number attempt.batch
SparesCall number None = Unit {0}
