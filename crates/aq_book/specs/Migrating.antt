-- What becomes of rows before they are opened.
use Rattle.std.specs.Prelude.{◌≡◌, Bool, true, false, not, ◌&&◌, Option, Some, None, List}
use Rattle.std.specs.List.{list_any}
use Rattle.aq_rules.specs.Kept.Rows.{Row, are_office_rows, tables_follow}
use Rattle.aq_rules.specs.Kept.Migration.{is_first, is_second, are_version_1, can_be_opened, migrated, migration_batch, opening_damage}
use Rattle.aq_rows.specs.declared.opening.OpenFault.{OpenFault}
use Rattle.aq_rows.specs.declared.opening.OpenFault.TheVariants.{Damaged, Memory}
use Rattle.aq_book.specs.declared.migration.Migration.{Migration}
use Rattle.aq_book.specs.declared.migration.Found.{Found}
use Rattle.aq_book.specs.declared.migration.Found.TheVariants.{Office, Version1, Neither}

-- the rows are of version 1, and these are the migrated rows and the batch that migrates them
pub record IsMigrationOf (rows : List Row) (migration : Migration) : Type 0 where
  pub old : are_version_1 rows ≡ true
  pub rows_are : migration.rows ≡ migrated rows
  pub batch_is : migration.batch ≡ migration_batch rows

-- an office's rows stay as they are, and those of version 1 are migrated
abbrev pub Migrates : List Row → Option Migration → Type 0
Migrates rows None = are_office_rows rows ≡ true
Migrates rows (Some migration) = IsMigrationOf rows migration

-- the first row that cannot be opened has this place; of want of memory nothing is said
abbrev pub IsMigrationFault : List Row → OpenFault → Type 0
IsMigrationFault rows (Damaged place) = opening_damage rows ≡ Some place
IsMigrationFault rows Memory = Unit

-- ---- on the way there

-- the tables of rows of version 1
abbrev pub has_old_tables : List Row → Bool
has_old_tables rows = list_any is_first rows && not (list_any is_second rows) && tables_follow rows

abbrev pub IsFound : List Row → Found → Type 0
IsFound rows Office = are_office_rows rows ≡ true
IsFound rows (Version1 office) = (are_version_1 rows ≡ true) × (office ≡ migrated rows)
IsFound rows Neither = can_be_opened rows ≡ false

abbrev pub is_opened : Found → Bool
is_opened Office = true
is_opened (Version1 office) = true
is_opened Neither = false
