use Rattle.std.proofs.Common.{◌≡◌, ◌++◌, drop, flat_map}
use Rattle.aq_browser.specs.Pages.{section}
use Rattle.aq_browser.proofs.sections.write_each_section.Given as goal

abbrev pub invariant-loop-sheet : goal.invariant-loop-sheet
invariant-loop-sheet l =
    l.out.items ++ flat_map (section l.several l.question) (drop l.sheet-index l.sheets)
    ≡ l.fn.out.items ++ flat_map (section l.several l.question) l.sheets
