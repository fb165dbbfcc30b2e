-- What a keeper tells of its connection.
use Rattle.std.specs.Prelude.{◌&&◌, Bool, true, false, List, Option, Some, None}
use Rattle.std.specs.Option.{option_map}
use Rattle.sqlite.specs.State.{State}
use Rattle.aq_rules.specs.Kept.Rows.{Row}
use Rattle.aq_rules.specs.Kept.RowChanges.{RowChange, with_row_changes}
use Rattle.aq_tables.specs.All.{rows_of}

abbrev pub told_if : Bool → List Row → Option (List Row)
told_if true rows = Some rows
told_if false rows = None

-- the rows of the tables as the last commit left them: told once they are prepared, while the connection is open
abbrev pub told : Bool → State → Option (List Row)
told prepared s = told_if (prepared && s.is_open) (rows_of s.committed)

-- what is told, with the changes of a batch
abbrev pub with_batch : List RowChange → Option (List Row) → Option (List Row)
with_batch batch = option_map (λ rows. with_row_changes rows batch)
