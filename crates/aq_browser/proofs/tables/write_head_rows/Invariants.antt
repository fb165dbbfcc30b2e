use Rattle.std.proofs.Common.{◌≡◌, ◌++◌, drop, flat_map}
use Rattle.aq_browser.specs.Pages.{head_row}
use Rattle.aq_browser.proofs.tables.write_head_rows.Given as goal

abbrev pub invariant-loop-head : goal.invariant-loop-head
invariant-loop-head l = l.out.items ++ flat_map head_row (drop l.head-index l.heads) ≡ l.fn.out.items ++ flat_map head_row l.heads
