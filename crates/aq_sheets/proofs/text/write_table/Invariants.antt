use Rattle.std.proofs.Common.{◌≡◌, ◌++◌, drop, flat_map}
use Rattle.aq_rules.specs.Shown.Sheet as sheets
use Rattle.aq_sheets.proofs.text.write_table.Given as goal

abbrev pub invariant-loop-row : goal.invariant-loop-row
invariant-loop-row l =
    l.out.items ++ flat_map sheets.row_text (drop l.row-index l.rows) ≡ (l.fn.out.items ++ sheets.line_of l.columns) ++ flat_map sheets.row_text l.rows
