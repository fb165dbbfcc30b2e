use Rattle.std.proofs.Common.{◌≡◌, ◌++◌, drop, map}
use Rattle.aq_rules.specs.Listed.Highest.{with_start}
use Rattle.aq_office.proofs.highest.rows_of.Given as goal

abbrev pub invariant-loop-day : goal.invariant-loop-day
invariant-loop-day g l = l.rows ++ map (with_start l.book l.site) (drop l.day-index l.days) ≡ map (with_start l.book l.site) l.days
