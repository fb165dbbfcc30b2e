-- The places of rows in the order of tables and keys, and rows by their places.
use Rattle.std.specs.Prelude.{◌≡◌, List}
use Rattle.std.specs.List.{AllByRecursion}
use Rattle.std.specs.List.Sorted.{IsStrictlySortedBy}
use Rattle.std.specs.Map.{keys_of}
use Rattle.std.specs.declared.cmp.Ordering.{Ordering}
use Rattle.std.specs.declared.cmp.Ordering.TheVariants.{Equal}
use Rattle.aq_keeper.specs.KeyView.{key_order}
use Rattle.aq_rules.specs.Kept.Rows.{Row}
use Rattle.aq_rules.specs.Kept.RowChanges.{RowKey, OfficeRowKey, ObsRowKey, LoadRowKey, SecondRowKey, row_key}
use Rattle.aq_journal.specs.declared.place.Place.{Place}
use Rattle.aq_journal.specs.declared.place.Place.TheVariants.{Record, First, Load, Second}

-- the key whose row stands at a place
abbrev pub key_at : Place → RowKey
key_at (Record kind key) = OfficeRowKey kind key.items
key_at (First site pollutant poc hour) = ObsRowKey site pollutant poc hour
key_at (Load number) = LoadRowKey number
key_at (Second site pollutant poc hour) = SecondRowKey site pollutant poc hour

abbrev pub place_cmp : Place → Place → Ordering
place_cmp a b = key_order (key_at a) (key_at b)

-- each row stands at the place of its key
abbrev pub ArePlaced : List (Place × Row) → Type 0
ArePlaced entries = AllByRecursion (λ e. key_order (key_at e.0) (row_key e.1) ≡ Equal) entries

-- what holds of the entries of every map of rows
pub record AreEntries (entries : List (Place × Row)) : Type 0 where
  pub rising : IsStrictlySortedBy place_cmp (keys_of entries)
  pub placed : ArePlaced entries
