use Rattle.std.proofs.Common.{◌≡◌, ◌∙◌, ◌++◌, ◌∷◌, List, true, ap, sym, subst}
use Rattle.std.specs.List.{AllByRecursion}
use Rattle.aq_dirty.specs.declared.spans.Span.{Span}
use Rattle.aq_dirty.specs.Spans.{starts_before, AreInOrder}
use Rattle.aq_dirty.proofs.SpanOrder.{all-behind}
use Rattle.aq_dirty.proofs.spans.bring_forward.Goals as goal

pub returns-then-is_before-clause-back : goal.returns-then-is_before-clause-back
returns-then-is_before-clause-back c =
    let back = c.pop_front.new.self.items in
    let first = c.in-Some.first in
    let all : c.loop-first.front.items ++ first ∷ back ≡ c.args.front.now.items ++ c.args.back.now.items =
    ap (λ (l : List Span). c.loop-first.front.items ++ l) (sym c.in-Some.ensures.items) ∙ c.loop-first.invariant.same in
    subst (AllByRecursion (λ other. starts_before c.args.span.now other ≡ true)) (sym c.push_front_reserved.ensures.items)
    (all-behind c.args.span.now first c.loop-first.front.items back (subst AreInOrder (sym all) c.requires.are.are.in_order) (sym c.is_before.ensures ∙ c.if-is_before.true))
