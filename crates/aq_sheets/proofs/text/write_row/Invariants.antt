use Rattle.std.proofs.Common.{◌≡◌, [], ◌++◌, map, drop}
use Rattle.aq_rules.specs.Shown.Sheet as sheets
use Rattle.aq_sheets.proofs.Lines.{words_behind}
use Rattle.aq_sheets.proofs.text.write_row.Given as goal

abbrev pub invariant-loop-cell : goal.invariant-loop-cell
invariant-loop-cell l =
    l.out.items ++ words_behind 32 l.space (map sheets.cell_text (drop l.cell-index l.cells)) ≡ l.fn.out.items ++ words_behind 32 [] (map sheets.cell_text l.cells)
