use Rattle.std.proofs.Common.{◌≡◌, ◌++◌, drop, map}
use Rattle.aq_browser.specs.Pages.{head_words}
use Rattle.aq_browser.proofs.tables.lines_of_heads.Given as goal

abbrev pub invariant-loop-head : goal.invariant-loop-head
invariant-loop-head l = l.lines ++ map head_words (drop l.head-index l.heads) ≡ map head_words l.heads
