use Rattle.std.proofs.Common.{◌≡◌, length}
use Rattle.aq_http.specs.Length.{without_zeros}
use Rattle.aq_http.proofs.length.without_zeros.Given as goal

abbrev pub invariant-loop-text : goal.invariant-loop-text
invariant-loop-text l = without_zeros l.text ≡ without_zeros l.fn.text

abbrev pub decreases-loop-text : goal.decreases-loop-text
decreases-loop-text l = length l.text
