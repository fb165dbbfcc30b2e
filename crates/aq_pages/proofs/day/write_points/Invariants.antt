use Rattle.std.proofs.Common.{◌≡◌, ◌++◌, drop, false}
use Rattle.aq_pages.specs.Pictures.{points_from}
use Rattle.aq_pages.proofs.day.write_points.Given as goal

abbrev pub invariant-loop-i : goal.invariant-loop-i
invariant-loop-i l =
    l.out.items ++ points_from l.place l.top l.joined l.i (drop l.i l.lines)
    ≡ l.fn.out.items ++ points_from l.place l.top false 0 l.lines
