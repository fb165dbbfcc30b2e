use Rattle.std.proofs.Common.{◌-◌, length}
use Rattle.aq_http.specs.declared.limits.TheConstants.{MOST_HEAD}
use Rattle.aq_serve.proofs.Fetching.{HasFetched}
use Rattle.aq_serve.proofs.fetch.fetch_head.Given as goal

abbrev pub invariant-head : goal.invariant-head
invariant-head g l = HasFetched (g.D.Door.seen l.fn.door) (g.D.Door.seen l.door) l.fn.input l.input l.fn.piece l.piece

abbrev pub decreases-head : goal.decreases-head
decreases-head g l = MOST_HEAD - length l.input
