use Rattle.std.proofs.Common.{◌≡◌, take, map}
use Rattle.aq_tables.specs.Forms.{column_in}
use Rattle.aq_tables.proofs.forms.are_columns.Given as goal

-- the columns so far are those of the form
abbrev pub invariant-loop-place : goal.invariant-loop-place
invariant-loop-place l = take l.place l.columns ≡ take l.place (map column_in l.forms)
