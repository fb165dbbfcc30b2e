use Rattle.aq_rows.proofs.PutLast.{both-asked, first-asked}
use Rattle.aq_rows.proofs.walk.comes_last.Goals as goal

pub returns-then-is_none : goal.returns-then-is_none
returns-then-is_none c =
    both-asked c.args.registry.now c.args.entry.now c.key.result c.key-then-is_none.result c.following.result c.get.result c.is_none.result c.is_none-then-is_none.result
    c.requires c.key.ensures c.following.ensures c.is_none.ensures c.if-is_none.true c.key-then-is_none.ensures c.get.ensures c.is_none-then-is_none.ensures

pub returns-else-is_none : goal.returns-else-is_none
returns-else-is_none c =
    first-asked c.args.registry.now c.args.entry.now c.key.result c.following.result c.is_none.result
    c.requires c.key.ensures c.following.ensures c.is_none.ensures c.if-is_none.false
