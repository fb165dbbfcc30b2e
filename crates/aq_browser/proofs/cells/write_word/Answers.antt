use Rattle.std.proofs.Common.{rules, ◌≡◌, length, sym, ◌∙◌}
use Rattle.aq_rules.specs.Shown.Sheet.{cell_text}
use Rattle.aq_browser.proofs.Words.{plain_word}
use Rattle.aq_browser.proofs.cells.write_word.Goals as goal

pub returns-then-are_plain : goal.returns-then-are_plain
returns-then-are_plain c =
    let from : c.len-start.result ≡ length c.args.out.now.items = search rules in
    plain_word c.args.out.now.items (cell_text c.args.cell.now) c.write_cell.new.out.items c.deref.result.now c.len-start.result
    c.in_ok-write_cell.ensures c.deref.ensures.value from (sym c.are_plain.ensures ∙ c.if-are_plain.true)
