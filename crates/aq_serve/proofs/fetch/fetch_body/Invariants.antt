use Rattle.std.proofs.Common.{◌+◌, ◌-◌, length}
use Rattle.aq_serve.proofs.Fetching.{HasFetched}
use Rattle.aq_serve.proofs.fetch.fetch_body.Given as goal

abbrev pub invariant-body : goal.invariant-body
invariant-body g l = HasFetched (g.D.Door.seen l.fn.door) (g.D.Door.seen l.door) l.fn.input l.input l.fn.piece l.piece

abbrev pub decreases-body : goal.decreases-body
decreases-body g l = l.head.head_bytes + l.head.body_bytes - length l.input
