use Rattle.std.proofs.Common.{◌≡◌, ◌++◌, drop}
use Rattle.aq_pages.specs.Pictures.{bars_from}
use Rattle.aq_pages.proofs.bars.write_bars.Given as goal

abbrev pub invariant-loop-i : goal.invariant-loop-i
invariant-loop-i l =
    l.out.items ++ bars_from l.layout.value l.layout.verdict l.layout.top l.layout.room l.i (drop l.i l.lines)
    ≡ l.fn.out.items ++ bars_from l.layout.value l.layout.verdict l.layout.top l.layout.room 0 l.lines
