use Rattle.std.proofs.Common.{◌≡◌, ◌++◌, drop, flat_map}
use Rattle.aq_pages.specs.Html.{cell}
use Rattle.aq_pages.proofs.html.write_cells.Given as goal

abbrev pub invariant-loop-word : goal.invariant-loop-word
invariant-loop-word l =
    l.out.items ++ flat_map (cell l.start l.end) (drop l.word-index l.words)
    ≡ l.fn.out.items ++ flat_map (cell l.start l.end) l.words
