use Rattle.std.proofs.Common.{◌∙◌, sym, subst, not, ◌==◌}
use Rattle.aq_registry.specs.declared.agreed.Span.{Span}
use Rattle.aq_registry.specs.Agreed.{spans_of, AreInOrder}
use Rattle.aq_registry.proofs.AgreedLemmas.{filter-in_order, without-none}
use Rattle.aq_registry.proofs.agreed.forget.Goals as goal

pub returns-then-stands-clause-agreed : goal.returns-then-stands-clause-agreed
returns-then-stands-clause-agreed c = record {
  in_order =
      subst AreInOrder (sym (c.reach.ensures.same ∙ c.take_away.ensures.spans))
      (filter-in_order (λ (span : Span). not (span.number == c.args.number)) (spans_of c.args.entries.now.items) c.requires.agreed.in_order);
  reached = c.reach.ensures.reached;
}

pub returns-else-stands-clause-spans : goal.returns-else-stands-clause-spans
returns-else-stands-clause-spans c = sym (without-none c.args.number (spans_of c.args.entries.now.items) (c.requires.stands c.if-stands.false))
