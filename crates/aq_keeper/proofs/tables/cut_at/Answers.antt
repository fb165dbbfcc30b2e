use Rattle.std.specs.Prelude.{reverse}
use Rattle.aq_keeper.proofs.RisingLemmas.{rise-front}
use Rattle.aq_keeper.proofs.tables.cut_at.Goals as goal

pub move_later-requires-clause-rise : goal.move_later-requires-clause-rise
move_later-requires-clause-rise c = rise-front c.args.rows.now.items (reverse c.args.later.now.items) c.requires.rise
