-- The order of spans, and what starts before and behind a place among them.
use Rattle.std.proofs.Common.{◌≡◌, ℕ, Bool, true, false, List, [], ◌∷◌, ◌++◌, refl, ap, sym, ◌∙◌, inl, inr}
use Rattle.std.specs.Prelude.{bytes_eq}
use Rattle.std.specs.List.{AllByRecursion}
use Rattle.std.proofs.lemmas.Bool.{false≢true, cases_Bool}
use Rattle.aq_rules.specs.Office.Office.{comes_before}
use Rattle.aq_rules.specs.Office.RowOrder.{before-trans, before-total}
use Rattle.aq_registry.proofs.AgreedLemmas.{all_follow, before-asym, equal-lists}
use Rattle.aq_dirty.specs.declared.spans.Span.{Span}
use Rattle.aq_dirty.specs.Spans.{start_of, starts_before, AreInOrder}

pub no_earlier : (a b c : List ℕ) → comes_before b a ≡ false → comes_before c b ≡ false → comes_before c a ≡ false
no_earlier a b c p q = choose (comes_before c a) refl
  where
    choose : (t : Bool) → comes_before c a ≡ t → t ≡ false
    choose false is = refl
    choose true is =
        elim (cases_Bool (bytes_eq b a)) [
          | inl same ↦ absurd (false≢true (sym q ∙ ap (comes_before c) (equal-lists b a same) ∙ is))
          | inr other ↦ absurd (false≢true (sym q ∙ before-trans c a b is (before-total b a p other)))
        ]

pub not_later : (a b : Span) → starts_before a b ≡ true → starts_before b a ≡ false
not_later a b p = before-asym (start_of a) (start_of b) p

-- ---- two parts

all-at : {X : Type 0} (P : X → Type 0) (front back : List X) (x : X) → AllByRecursion P (front ++ x ∷ back) → P x
all-at P [] back x all = all.0
all-at P (first ∷ front) back x all = all-at P front back x all.1

in_order-behind : (front back : List Span) → AreInOrder (front ++ back) → AreInOrder back
in_order-behind [] back h = h
in_order-behind (first ∷ front) back h = in_order-behind front back h.1

-- if a span does not start before one, it starts before none in front of it
pub none-in_front : (span last : Span) (front back : List Span) → AreInOrder (front ++ last ∷ back) → starts_before span last ≡ false
    → AllByRecursion (λ other. starts_before span other ≡ false) (front ++ last ∷ [])
none-in_front span last [] back h is = (is, tt)
none-in_front span last (first ∷ front) back h is = (
  no_earlier (start_of first) (start_of last) (start_of span) (all-at (λ other. starts_before other first ≡ false) front back last h.0) is,
  none-in_front span last front back h.1 is,
)

-- and if it starts before one, it starts before all behind it
pub all-behind : (span next : Span) (front back : List Span) → AreInOrder (front ++ next ∷ back) → starts_before span next ≡ true
    → AllByRecursion (λ other. starts_before span other ≡ true) (next ∷ back)
all-behind span next front back h is =
    (is, all_follow (λ other. starts_before other next ≡ false) (λ other. starts_before span other ≡ true) (λ other later. still other later) back (in_order-behind front (next ∷ back) h).0)
  where
    still : (other : Span) → starts_before other next ≡ false → starts_before span other ≡ true
    still other later = choose (starts_before span other) refl
      where
        choose : (b : Bool) → starts_before span other ≡ b → b ≡ true
        choose true same = refl
        choose false same = absurd (false≢true (sym (no_earlier (start_of next) (start_of other) (start_of span) later same) ∙ is))
