use Rattle.std.proofs.Common.{◌≡◌, drop}
use Rattle.aq_pages.specs.Numbers.{has_number}
use Rattle.aq_browser.specs.Pages.{lines_of_rows}
use Rattle.aq_browser.proofs.numbers.have_number.Given as goal

abbrev pub invariant-loop-row : goal.invariant-loop-row
invariant-loop-row l = has_number l.place (lines_of_rows (drop l.row-index l.rows)) ≡ has_number l.place (lines_of_rows l.rows)
