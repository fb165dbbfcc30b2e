use Rattle.std.proofs.Common.{◌≡◌, ◌++◌, drop, flat_map}
use Rattle.aq_browser.specs.Pages.{sheet_cell}
use Rattle.aq_browser.proofs.tables.write_sheet_cells.Given as goal

abbrev pub invariant-loop-cell : goal.invariant-loop-cell
invariant-loop-cell l = l.out.items ++ flat_map sheet_cell (drop l.cell-index l.cells) ≡ l.fn.out.items ++ flat_map sheet_cell l.cells
