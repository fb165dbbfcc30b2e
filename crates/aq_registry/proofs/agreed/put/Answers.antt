use Rattle.std.proofs.Common.{◌∙◌, sym, subst}
use Rattle.aq_registry.specs.Agreed.{spans_of, AreInOrder}
use Rattle.aq_registry.proofs.AgreedLemmas.{with_span-in_order}
use Rattle.aq_registry.proofs.agreed.put.Goals as goal

pub returns-clause-agreed : goal.returns-clause-agreed
returns-clause-agreed c = record {
  in_order =
      subst AreInOrder (sym (c.reach_behind.ensures.same ∙ c.insert-place.ensures.spans))
      (with_span-in_order c.args.span (spans_of c.args.entries.now.items) c.requires.agreed.in_order);
  reached = c.reach_behind.ensures.reached;
}
