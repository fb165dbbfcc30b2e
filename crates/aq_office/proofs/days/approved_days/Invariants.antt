use Rattle.std.proofs.Common.{◌≡◌}
use Rattle.aq_office.proofs.Asked.{first_approvals}
use Rattle.aq_office.proofs.days.approved_days.Given as goal

abbrev pub invariant-loop-i : goal.invariant-loop-i
invariant-loop-i l = l.approved ≡ first_approvals l.book l.site l.first l.i
