use Rattle.std.proofs.Common.{◌≡◌, ◌++◌, drop, map}
use Rattle.aq_browser.specs.Pages.{row_words}
use Rattle.aq_browser.proofs.tables.lines_of_rows.Given as goal

abbrev pub invariant-loop-row : goal.invariant-loop-row
invariant-loop-row l = l.lines ++ map row_words (drop l.row-index l.rows) ≡ map row_words l.rows
