use Rattle.std.proofs.Common.{◌≡◌, List, length, map, take}
use Rattle.sqlite.specs.Values.{bound}
use Rattle.aq_rules.specs.Kept.Rows.{ObsRow2}
use Rattle.aq_tables.specs.Sixteen.{AreNumbered, puts_of}
use Rattle.aq_tables.specs.Told.{third_values}
use Rattle.aq_tables.proofs.sixteen.take_changes.Given as goal

abbrev pub invariant-loop-place : goal.invariant-loop-place
invariant-loop-place l =
    (length l.values ≡ length l.fn.values) × (found : List ObsRow2) × (take l.place l.changes ≡ puts_of found) × (map bound (take l.place l.values) ≡ map third_values found) × AreNumbered found
