use Rattle.std.proofs.Common.{◌≡◌, ◌++◌, drop, flat_map}
use Rattle.aq_pages.specs.Page.{cells}
use Rattle.aq_pages.proofs.page.write_lines.Given as goal

abbrev pub invariant-loop-line : goal.invariant-loop-line
invariant-loop-line l =
    l.out.items ++ flat_map cells (drop l.line-index l.lines) ≡ l.fn.out.items ++ flat_map cells l.lines
