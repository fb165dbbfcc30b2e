use Rattle.std.proofs.Common.{◌≡◌, ◌∙◌, ◌++◌, [], ◌∷◌, List, ap, sym, subst}
use mathlib.Core.List.{append_assoc}
use Rattle.aq_dirty.specs.declared.spans.Span.{Span}
use Rattle.aq_dirty.specs.Spans.{holds, AreSpans}
use Rattle.aq_dirty.proofs.Added.{between-are, between-holds}
use Rattle.aq_dirty.proofs.spans.add_last.Goals as goal

module _ (c : goal.After-push_back_reserved) where
  abbrev front : List Span
  front = c.args.front.now.items

  abbrev back : List Span
  back = c.args.back.now.items

  made : c.push_back_reserved.new.self.items ++ back ≡ front ++ c.args.span ∷ back
  made =
      ap (λ (l : List Span). l ++ back) (c.push_back_reserved.ensures.items ∙ ap (λ (l : List Span). l ++ c.args.span ∷ []) (c.lengthen_last.ensures.same c.if-not-lengthen_last.true))
      ∙ append_assoc front (c.args.span ∷ []) back

pub returns-then-not-lengthen_last-clause-are : goal.returns-then-not-lengthen_last-clause-are
returns-then-not-lengthen_last-clause-are c =
    subst AreSpans (sym (made c)) (between-are (front c) (back c) c.args.span c.requires.some c.requires.are c.requires.front c.requires.back)

pub returns-then-not-lengthen_last-clause-holds : goal.returns-then-not-lengthen_last-clause-holds
returns-then-not-lengthen_last-clause-holds c site number =
    ap (λ (l : List Span). holds site number l) (made c) ∙ between-holds site number (front c) (back c) c.args.span
