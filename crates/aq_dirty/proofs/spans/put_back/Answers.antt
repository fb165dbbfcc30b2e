use Rattle.std.proofs.Common.{◌≡◌, ◌∙◌, ◌++◌, ◌∷◌, [], List, false, ap, sym, subst}
use Rattle.std.specs.List.{AllByRecursion}
use mathlib.Core.List.{append_assoc}
use Rattle.aq_dirty.specs.declared.spans.Span.{Span}
use Rattle.aq_dirty.specs.Spans.{starts_before, AreInOrder}
use Rattle.aq_dirty.proofs.SpanOrder.{none-in_front}
use Rattle.aq_dirty.proofs.spans.put_back.Goals as goal

pub returns-then-not-is_before-clause-front : goal.returns-then-not-is_before-clause-front
returns-then-not-is_before-clause-front c =
    let front = c.pop_back.new.self.items in
    let last = c.in-Some.last in
    let all : front ++ last ∷ c.loop-last.back.items ≡ c.args.front.now.items ++ c.args.back.now.items =
    sym (append_assoc front (last ∷ []) c.loop-last.back.items)
    ∙ ap (λ (l : List Span). l ++ c.loop-last.back.items) (sym c.in-Some.ensures.items)
    ∙ c.loop-last.invariant.same in
    subst (AllByRecursion (λ other. starts_before c.args.span.now other ≡ false)) (sym c.push_back_reserved.ensures.items)
    (none-in_front c.args.span.now last front c.loop-last.back.items (subst AreInOrder (sym all) c.requires.are.are.in_order) (sym c.is_before.ensures ∙ c.if-not-is_before.true))
