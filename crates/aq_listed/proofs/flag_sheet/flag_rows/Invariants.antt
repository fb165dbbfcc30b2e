use Rattle.std.proofs.Common.{◌≡◌, ◌++◌, map, drop}
use Rattle.aq_rules.specs.Listed.Flags as flags
use Rattle.aq_listed.proofs.flag_sheet.flag_rows.Given as goal

abbrev pub invariant-loop-row : goal.invariant-loop-row
invariant-loop-row l = l.rows ++ map flags.flag_cells (drop l.row-index l.listed) ≡ map flags.flag_cells l.listed
