use Rattle.std.proofs.Common.{◌≡◌, [], map, drop, ap, arith}
use Rattle.std.proofs.lemmas.List.{drop_all}
use Rattle.aq_rules.specs.Shown.Sheet as sheets
use Rattle.aq_sheets.proofs.Lines.{line_done}
use Rattle.aq_sheets.proofs.text.write_row.Goals as goal

pub returns : goal.returns
returns c =
    let none : drop c.loop-cell.cell-index c.args.cells.now ≡ [] = drop_all c.loop-cell.cell-index c.args.cells.now (omega arith) in
    line_done 32 10 c.args.out.now.items c.loop-cell.out.items c.push.new.self.items c.loop-cell.space.now (map sheets.cell_text c.args.cells.now) _ (ap (map sheets.cell_text) none) c.loop-cell.invariant c.in_ok-push.ensures.items
