use Rattle.std.proofs.Common.{◌≡◌}
use Rattle.aq_http.specs.Routes.{part}
use Rattle.aq_http.proofs.routes.part.Given as goal

abbrev pub invariant-loop-left : goal.invariant-loop-left
invariant-loop-left l = part l.left l.rest ≡ part l.fn.slashes l.fn.path

abbrev pub decreases-loop-left : goal.decreases-loop-left
decreases-loop-left l = l.left
