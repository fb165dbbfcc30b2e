use Rattle.std.proofs.Common.{sym, subst}
use Rattle.std.specs.Prelude.{IfSome}
use Rattle.aq_agg.specs.Bags.{Holds}
use Rattle.aq_agg.specs.Tallies.{AllStay, BagAt}
use Rattle.aq_agg.proofs.Exchanged.{on_error, held_still, exchanged}
use Rattle.aq_agg.proofs.tally.Tally.change.Goals as goal

pub returns-in_err-put_in-clause-unchanged : goal.returns-in_err-put_in-clause-unchanged
returns-in_err-put_in-clause-unchanged g c =
    on_error (AllStay g.K.Ord.cmp g.A.Aggregate.is_of c.args.self.now c.put_in.new.kept.entries) c.from_residual.result
    (rw (← c.self.view_is) c.in_err-put_in.ensures.unchanged)

pub take_out-requires : goal.take_out-requires
take_out-requires g c =
    held_still g.K.Ord.cmp g.A.Aggregate.is_of g.met.A.Aggregate.any_order c.args.key c.args.old c.args.new
    c.self.inside.kept.entries c.put_in.new.kept.entries c.in_ok-put_in.ensures.bag
    (subst (λ entries. IfSome c.args.old (λ item. Holds (BagAt g.K.Ord.cmp g.A.Aggregate.is_of c.args.key) item entries)) (sym c.self.view_is) c.requires.old)

pub returns-clause-bag : goal.returns-clause-bag
returns-clause-bag g c rest whole =
    exchanged g.K.Ord.cmp g.A.Aggregate.is_of g.met.A.Aggregate.any_order c.args.key c.args.old c.args.new
    c.self.inside.kept.entries c.put_in.new.kept.entries c.take_out.new.kept.entries c.in_ok-put_in.ensures.bag c.take_out.ensures.bag
    rest (rw c.self.view_is whole)

pub returns-clause-others : goal.returns-clause-others
returns-clause-others g c other apart bag whole =
    c.take_out.ensures.others other apart bag (c.in_ok-put_in.ensures.others other apart bag (rw c.self.view_is whole))
