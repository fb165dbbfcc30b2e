-- Rowids that a query shows.
use Rattle.std.specs.Prelude.{◌≡◌, ℕ, ℤ, Bool, true, List, Option, Some, None, int_lt}
use Rattle.std.specs.List.{AllByRecursion}
use Rattle.std.specs.declared.cmp.Ordering.TheVariants.{Less}
use Rattle.sqlite.specs.declared.types.Value.{Value}
use Rattle.sqlite.specs.Order.{Row}
use Rattle.sqlite.specs.Effect.{Database}
use Rattle.sqlite_value.specs.Order.{value_cmp, column}
use Rattle.sqlite_trees.specs.Tree.{IsAscending}
use Rattle.sqlite_trees.specs.View.{is_int}
use Rattle.sqlite.specs.Tree.{rowid}
use Rattle.sqlite_sql.specs.Numeral.{fits_i64}
use Rattle.sqlite_rules.specs.Edit.{id_in}
use Rattle.aq_tables.specs.Forms.{Form}
use Rattle.aq_tables.specs.Queries.{Shows}
use Rattle.aq_tables.specs.Standing.{Stands, HaveOtherRowids}

-- an integer that a column can hold
abbrev pub IsRowid : Value → Type 0
IsRowid v = (is_int v ≡ true) × (fits_i64 (id_in v) ≡ true)

-- the first columns are such integers and rise
abbrev pub Rise : List Row → Type 0
Rise rows = IsAscending (λ a b. value_cmp (column a 0) (column b 0) ≡ Less) rows × AllByRecursion (λ r. IsRowid (column r 0)) rows

abbrev pub is_after : Option ℤ → ℤ → Bool
is_after None number = true
is_after (Some last) number = int_lt last number

-- the text shows rows whose first columns rise
abbrev pub ShowsRising : List ℕ → Database → Type 0
ShowsRising text db = (shown : List Row) × Shows text db shown × Rise shown

-- if a table of this form stands, no two of its rows have one rowid, and each has one
abbrev pub AreApart : Form → Database → Type 0
AreApart form db = (at tree : ℕ) → Stands db.schema form at tree → IsAscending HaveOtherRowids (db.trees tree) × AllByRecursion (λ r. IsRowid (rowid r)) (db.trees tree)
