use Rattle.std.proofs.Common.{◌≡◌, ◌++◌, drop, flat_map}
use Rattle.aq_browser.specs.Rows.{row_word}
use Rattle.aq_browser.proofs.rows.write_each_row_word.Given as goal

abbrev pub invariant-loop-row : goal.invariant-loop-row
invariant-loop-row l =
    l.out.items ++ flat_map (row_word l.before l.place l.behind) (drop l.row-index l.rows)
    ≡ l.fn.out.items ++ flat_map (row_word l.before l.place l.behind) l.rows
