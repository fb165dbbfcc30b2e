use Rattle.std.proofs.Common.{◌≡◌, ◌++◌, drop, flat_map}
use Rattle.aq_browser.specs.Pages.{cells_row}
use Rattle.aq_browser.proofs.tables.write_cells_rows.Given as goal

abbrev pub invariant-loop-row : goal.invariant-loop-row
invariant-loop-row l = l.out.items ++ flat_map cells_row (drop l.row-index l.rows) ≡ l.fn.out.items ++ flat_map cells_row l.rows
