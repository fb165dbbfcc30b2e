-- Tables of version 1, which kept no methods, and how they become an office's (own).
use Rattle.std.specs.Prelude.{Bool, true, false, not, ◌&&◌, ◌||◌, Option, None, List, [], ◌++◌, map, filter}
use Rattle.std.specs.List.{list_any}
use Rattle.aq_rules.specs.Kept.Rows.{Row, ObsRow, ObsRow2, OfObsRow, OfSecondRow, Place, FirstBad, first_bad, are_office_rows, tables_follow}
use Rattle.aq_rules.specs.Kept.RowChanges.{RowChange, PutRow, DropRow, row_key}

-- ---- rows of version 1

-- a row of the table of observations of version 1
abbrev pub is_first : Row → Bool
is_first (OfObsRow row) = true
is_first row = false

-- a row of the table of observations with their methods
abbrev pub is_second : Row → Bool
is_second (OfSecondRow row) = true
is_second row = false

-- the same observation, without a method
abbrev pub second_row : ObsRow → ObsRow2
second_row row = record {
  site = row.site;
  pollutant = row.pollutant;
  poc = row.poc;
  hour = row.hour;
  value = row.value;
  method = None;
  null = row.null;
  quals = row.quals;
}

abbrev pub migrated_row : Row → Row
migrated_row (OfObsRow row) = OfSecondRow (second_row row)
migrated_row row = row

-- each observation of version 1 stands in the other table instead, and each other row as it was
unfoldable pub migrated : List Row → List Row
migrated rows = filter (λ row. not (is_first row)) rows ++ map migrated_row (filter is_first rows)

-- rows of version 1: some observation is one of version 1 and none has a place for a method, the tables stand in their order, and the migrated rows are an office's
unfoldable pub are_version_1 : List Row → Bool
are_version_1 rows =
    list_any is_first rows && not (list_any is_second rows) && tables_follow rows && are_office_rows (migrated rows)

-- ---- damaged rows

-- rows that can be opened: an office's, or of version 1
unfoldable pub can_be_opened : List Row → Bool
can_be_opened rows = are_office_rows rows || are_version_1 rows

-- what the first row is that cannot be opened with those before it
abbrev pub FirstUnopened : List Row → Place → Type 0
FirstUnopened rows place = FirstBad can_be_opened rows place

-- its place; none if all rows can be opened
unfoldable pub opening_damage : List Row → Option Place
opening_damage rows = first_bad can_be_opened [] rows

-- ---- the batch of a migration

-- all drops by key, and then all puts by key
unfoldable pub migration_batch : List Row → List RowChange
migration_batch rows =
    map (λ row. DropRow (row_key row)) (filter is_first rows) ++ map (λ row. PutRow (migrated_row row)) (filter is_first rows)
