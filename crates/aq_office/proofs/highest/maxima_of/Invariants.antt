use Rattle.std.proofs.Common.{◌≡◌, ◌++◌, drop, map}
use Rattle.aq_rules.specs.Ozone.OzoneYear.{ranked_maximum}
use Rattle.aq_office.proofs.highest.maxima_of.Given as goal

abbrev pub invariant-loop-day : goal.invariant-loop-day
invariant-loop-day l = l.maxima ++ map ranked_maximum (drop l.day-index l.days) ≡ map ranked_maximum l.days
