use Rattle.std.proofs.Common.{◌≡◌, ◌++◌, drop, map}
use Rattle.aq_rules.specs.Shown.Sheet.{cell_text}
use Rattle.aq_browser.proofs.tables.row_words.Given as goal

abbrev pub invariant-loop-cell : goal.invariant-loop-cell
invariant-loop-cell l = l.words ++ map cell_text (drop l.cell-index l.cells) ≡ map cell_text l.cells
