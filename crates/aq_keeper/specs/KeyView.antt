-- The key that a content is, as the book of rules has it, the same of one whose text is lent, the order of keys, their tables, and which are of loads.
use Rattle.std.specs.Prelude.{ℕ, Bool, true, false}
use Rattle.std.specs.declared.cmp.Ordering.{Ordering}
use Rattle.std.specs.Ordering.{int_cmp}
use Rattle.std.specs.Cmp.Lexicographic.{slice_cmp}
use Rattle.aq_keeper.specs.declared.key.KeyContent.{KeyContent}
use Rattle.aq_keeper.specs.declared.key.KeyContent.TheVariants.{Office, Observation, Load, Second}
use Rattle.aq_keeper.specs.declared.key.KeyView as lent
use Rattle.aq_rules.specs.Kept.RowChanges as row_changes

abbrev pub key_of : KeyContent → row_changes.RowKey
key_of (Office kind key) = row_changes.OfficeRowKey kind key
key_of (Observation site pollutant poc hour) = row_changes.ObsRowKey site pollutant poc hour
key_of (Load number) = row_changes.LoadRowKey number
key_of (Second site pollutant poc hour) = row_changes.SecondRowKey site pollutant poc hour

abbrev pub key_seen : lent.KeyView → row_changes.RowKey
key_seen (lent.TheVariants.Office kind key) = row_changes.OfficeRowKey kind key.now
key_seen (lent.TheVariants.Observation site pollutant poc hour) = row_changes.ObsRowKey site pollutant poc hour
key_seen (lent.TheVariants.Load number) = row_changes.LoadRowKey number
key_seen (lent.TheVariants.Second site pollutant poc hour) = row_changes.SecondRowKey site pollutant poc hour

-- where a key stands to another: the first number in which they differ decides, and else their lengths do
abbrev pub key_order : row_changes.RowKey → row_changes.RowKey → Ordering
key_order a b = slice_cmp int_cmp (row_changes.columns a) (row_changes.columns b)

-- whether a key is that of a load
abbrev pub is_load : row_changes.RowKey → Bool
is_load (row_changes.LoadRowKey number) = true
is_load key = false

-- the number of a key's table
abbrev pub table_of_key : row_changes.RowKey → ℕ
table_of_key (row_changes.OfficeRowKey kind key) = 0
table_of_key (row_changes.ObsRowKey site pollutant poc hour) = 1
table_of_key (row_changes.LoadRowKey number) = 2
table_of_key (row_changes.SecondRowKey site pollutant poc hour) = 3
