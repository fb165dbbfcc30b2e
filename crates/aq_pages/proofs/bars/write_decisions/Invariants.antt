use Rattle.std.proofs.Common.{◌≡◌, ◌++◌, drop}
use Rattle.aq_pages.specs.Pictures.{decisions_from}
use Rattle.aq_pages.proofs.bars.write_decisions.Given as goal

abbrev pub invariant-loop-i : goal.invariant-loop-i
invariant-loop-i l =
    l.out.items ++ decisions_from l.decides l.room l.i (drop l.i l.lines)
    ≡ l.fn.out.items ++ decisions_from l.decides l.room 0 l.lines
