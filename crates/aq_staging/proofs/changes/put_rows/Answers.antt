use Rattle.aq_staging.proofs.ChangeLemmas.{next-has_room}
use Rattle.aq_staging.proofs.changes.put_rows.Goals as goal

pub put_row-requires-clause-room : goal.put_row-requires-clause-room
put_row-requires-clause-room c =
    next-has_room (c.in-Some.key, c.in-Some.content) _ c.loop-key.key-iterator c.args.left.now c.loop-key.shelf c.args.shelf.now c.in-Some.ensures.steps c.loop-key.invariant.shelf c.requires
