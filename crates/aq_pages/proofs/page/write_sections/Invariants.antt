use Rattle.std.proofs.Common.{◌≡◌, ◌++◌, drop, flat_map}
use Rattle.aq_pages.specs.Page.{section}
use Rattle.aq_pages.proofs.page.write_sections.Given as goal

abbrev pub invariant-loop-sheet : goal.invariant-loop-sheet
invariant-loop-sheet l =
    l.out.items ++ flat_map section (drop l.sheet-index l.sheets) ≡ l.fn.out.items ++ flat_map section l.sheets
