use Rattle.aq_listed.proofs.Places.{few-view}
use Rattle.aq_listed.proofs.marks.Marks.as_slice.Goals as goal

pub returns-clause-few : goal.returns-clause-few
returns-clause-few c = few-view c.self.inside.items.items c.args.self.now c.self.view_is c.self.invariant.few
