-- What a crash leaves, as rows, through any number of commits.
use Rattle.std.specs.Prelude.{Bool, true, false, List, [], ◌∷◌}
use Rattle.aq_rules.specs.Kept.Rows as the_rows
use Rattle.aq_rules.specs.Kept.RowChanges.{RowChange, with_row_changes}

-- the rows that stand, and the lists of rows of which a crash may leave one
pub record Kept : Type 0 where
  pub rows : List the_rows.Row
  pub left : List (List the_rows.Row)

-- a batch that was to be committed, and whether it was acknowledged
pub record Attempt : Type 0 where
  pub batch : List RowChange
  pub is_done : Bool

abbrev pub kept_with : Kept → List the_rows.Row → Bool → Kept
kept_with kept made true = record { rows = made; left = made ∷ [] }
kept_with kept made false = record { rows = kept.rows; left = made ∷ kept.left }

-- Once a batch is acknowledged its rows stand, and a crash leaves nothing else. After one that failed the rows
-- are as before, and a crash leaves them with the batch, or what it could leave before.
abbrev pub kept_after : Kept → Attempt → Kept
kept_after kept attempt = kept_with kept (with_row_changes kept.rows attempt.batch) attempt.is_done
