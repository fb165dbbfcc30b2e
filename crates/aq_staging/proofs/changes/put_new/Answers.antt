use Rattle.std.proofs.Common.{arith}
use Rattle.aq_staging.proofs.ChangeLemmas.{length-put}
use Rattle.aq_staging.proofs.changes.put_new.Goals as goal

pub unreachable-requires-in-Err-Full : goal.unreachable-requires-in-Err-Full
unreachable-requires-in-Err-Full c =
    let why = rw c.in-Err-Full.field-0-is at c.in-Err-Full.ensures.refused in
    let more = length-put c.args.key.now c.args.content.now c.args.shelf.now c.requires.absent in
    let room = c.requires.room in
    omega (arith, why.1, more, room)
