use Rattle.std.proofs.Common.{◌≡◌, ◌++◌, drop}
use Rattle.aq_pages.specs.Pictures.{hours_from}
use Rattle.aq_pages.proofs.day.write_hours.Given as goal

abbrev pub invariant-loop-i : goal.invariant-loop-i
invariant-loop-i l = l.out.items ++ hours_from l.i (drop l.i l.lines) ≡ l.fn.out.items ++ hours_from 0 l.lines
