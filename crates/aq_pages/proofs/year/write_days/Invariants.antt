use Rattle.std.proofs.Common.{◌≡◌, ◌++◌, drop}
use Rattle.aq_pages.specs.Year.{days_from}
use Rattle.aq_pages.proofs.year.write_days.Given as goal

abbrev pub invariant-loop-i : goal.invariant-loop-i
invariant-loop-i l =
    l.out.items ++ days_from l.pollutant l.top l.i (drop l.i l.lines) ≡ l.fn.out.items ++ days_from l.pollutant l.top 0 l.lines
