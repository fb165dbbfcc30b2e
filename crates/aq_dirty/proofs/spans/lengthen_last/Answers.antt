use Rattle.std.proofs.Common.{◌≡◌, ◌∙◌, ◌||◌, ◌++◌, [], ◌∷◌, List, true, ap, sym, subst}
use mathlib.Core.List.{append_assoc}
use Rattle.aq_dirty.specs.declared.spans.Span.{Span}
use Rattle.aq_dirty.specs.Spans.{covers, holds, lengthened, reaches, AreSpans}
use Rattle.aq_dirty.proofs.Added.{longer-are, longer-holds}
use Rattle.aq_dirty.proofs.spans.lengthen_last.Goals as goal

module _ (c : goal.After-push_back_reserved) where
  abbrev front : List Span
  front = c.pop_back.new.self.items

  abbrev back : List Span
  back = c.args.back.now.items

  was : c.args.front.now.items ++ back ≡ front ++ c.in-Some.last ∷ back
  was = ap (λ (l : List Span). l ++ back) c.in-Some.ensures.items ∙ append_assoc front (c.in-Some.last ∷ []) back

  made : c.push_back_reserved.new.self.items ++ back ≡ front ++ lengthened c.in-Some.last c.args.span.now ∷ back
  made =
      ap (λ (l : List Span). l ++ back) (c.push_back_reserved.ensures.items ∙ ap (λ (s : Span). front ++ s ∷ []) c.lengthened.ensures)
      ∙ append_assoc front (lengthened c.in-Some.last c.args.span.now ∷ []) back

pub returns-then-reaches-clause-are : goal.returns-then-reaches-clause-are
returns-then-reaches-clause-are c _ =
    subst AreSpans (sym (made c)) (longer-are (front c) (back c) c.in-Some.last c.args.span.now (subst AreSpans (was c) c.requires.are))

pub returns-then-reaches-clause-joined : goal.returns-then-reaches-clause-joined
returns-then-reaches-clause-joined c _ site number =
    ap (λ (l : List Span). holds site number l) (made c)
    ∙ longer-holds site number (front c) (back c) c.in-Some.last c.args.span.now (sym c.reaches.ensures ∙ c.if-reaches.true)
    ∙ ap (λ (l : List Span). holds site number l || covers site number c.args.span.now) (sym (was c))
