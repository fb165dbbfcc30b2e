-- One more span, at its place between two parts, or as a longer last one of the first part.
use Rattle.std.proofs.Common.{◌≡◌, ◌≤◌, ◌-◌, ℕ, Bool, true, false, ◌&&◌, ◌||◌, List, [], ◌∷◌, ◌++◌, refl, ap, sym, ◌∙◌, arith}
use Rattle.std.specs.Prelude.{max, nat_le}
use Rattle.std.specs.List.{AllByRecursion}
use Rattle.std.proofs.lemmas.Bool.{and_parts}
use Rattle.std.proofs.lemmas.Bool.Decides.{nat_tests}
use Rattle.std.proofs.lemmas.List.Folds.{list_any-append}
use Rattle.aq_base.specs.Site.{Site}
use Rattle.aq_rules.specs.Office.Monitors.{is_same_site}
use Rattle.aq_rules.specs.Office.Sameness.{same_site}
use Rattle.aq_registry.proofs.AgreedLemmas.{all_follow}
use Rattle.aq_dirty.specs.declared.spans.Span.{Span}
use Rattle.aq_dirty.specs.Spans.{covers, holds, lengthened, reaches, starts_before, AreInOrder, AreSpans}
use Rattle.aq_dirty.proofs.SpanOrder.{not_later}

-- ---- one more between two parts

among : (a b c : Bool) → (a || (b || c)) ≡ ((a || c) || b)
among true b c = refl
among false true true = refl
among false true false = refl
among false false true = refl
among false false false = refl

all-between : {X : Type 0} (P : X → Type 0) (front back : List X) (x : X) → P x → AllByRecursion P (front ++ back) → AllByRecursion P (front ++ x ∷ back)
all-between P [] back x one all = (one, all)
all-between P (first ∷ front) back x one all = (all.0, all-between P front back x one all.1)

in_order-between : (front back : List Span) (span : Span) → AreInOrder (front ++ back)
    → AllByRecursion (λ other. starts_before span other ≡ false) front
    → AllByRecursion (λ other. starts_before span other ≡ true) back → AreInOrder (front ++ span ∷ back)
in_order-between [] back span h before behind =
    (all_follow (λ other. starts_before span other ≡ true) (λ other. starts_before other span ≡ false) (λ other is. not_later span other is) back behind, h)
in_order-between (first ∷ front) back span h before behind =
    (all-between (λ other. starts_before other first ≡ false) front back span before.0 h.0, in_order-between front back span h.1 before.1 behind)

pub between-are : (front back : List Span) (span : Span) → span.first ≤ span.last → AreSpans (front ++ back)
    → AllByRecursion (λ other. starts_before span other ≡ false) front
    → AllByRecursion (λ other. starts_before span other ≡ true) back → AreSpans (front ++ span ∷ back)
between-are front back span some are before behind = record {
  in_order = in_order-between front back span are.in_order before behind;
  some = all-between (λ (other : Span). other.first ≤ other.last) front back span some are.some;
}

pub between-holds : (site : Site) (number : ℕ) (front back : List Span) (span : Span)
    → holds site number (front ++ span ∷ back) ≡ (holds site number (front ++ back) || covers site number span)
between-holds site number front back span =
    list_any-append (covers site number) front (span ∷ back)
    ∙ among (holds site number front) (covers site number span) (holds site number back)
    ∙ ap (λ b. b || covers site number span) (sym (list_any-append (covers site number) front back))

-- ---- the last one of the first part, lengthened

longer : (same : Bool) (f l g k n : ℕ) → f ≤ g → g - 1 ≤ l → (same && nat_le f n && nat_le n (max l k)) ≡ ((same && nat_le f n && nat_le n l) || (same && nat_le g n && nat_le n k))
longer true f l g k n low near = grind (arith, nat_tests)
longer false f l g k n low near = refl

regroup : (a b c d : Bool) → (a || ((b || c) || d)) ≡ ((a || (b || d)) || c)
regroup true b c d = refl
regroup false true c d = refl
regroup false false true true = refl
regroup false false true false = refl
regroup false false false true = refl
regroup false false false false = refl

covers-lengthened : (site : Site) (number : ℕ) (last span : Span) → reaches last span ≡ true → covers site number (lengthened last span) ≡ (covers site number last || covers site number span)
covers-lengthened site number last span is =
    let parts = and_parts (is_same_site last.site span.site && nat_le last.first span.first) (nat_le (span.first - 1) last.last) is in
    let start = and_parts (is_same_site last.site span.site) (nat_le last.first span.first) parts.0 in
    let low : last.first ≤ span.first = (let t = start.1 in grind (arith, nat_tests)) in
    let near : span.first - 1 ≤ last.last = (let t = parts.1 in grind (arith, nat_tests)) in
    longer (is_same_site last.site site) last.first last.last span.first span.last number low near
    ∙ ap (λ (s : Site). covers site number last || (is_same_site s site && nat_le span.first number && nat_le number span.last)) (same_site last.site span.site start.0)

pub longer-holds : (site : Site) (number : ℕ) (front back : List Span) (last span : Span) → reaches last span ≡ true
    → holds site number (front ++ lengthened last span ∷ back) ≡ (holds site number (front ++ last ∷ back) || covers site number span)
longer-holds site number front back last span is =
    list_any-append (covers site number) front (lengthened last span ∷ back)
    ∙ ap (λ b. holds site number front || (b || holds site number back)) (covers-lengthened site number last span is)
    ∙ regroup (holds site number front) (covers site number last) (covers site number span) (holds site number back)
    ∙ ap (λ b. b || covers site number span) (sym (list_any-append (covers site number) front (last ∷ back)))

all-other : {X : Type 0} (P : X → Type 0) (front back : List X) (x y : X) → (P x → P y) → AllByRecursion P (front ++ x ∷ back) → AllByRecursion P (front ++ y ∷ back)
all-other P [] back x y to all = (to all.0, all.1)
all-other P (first ∷ front) back x y to all = (all.0, all-other P front back x y to all.1)

in_order-longer : (front back : List Span) (last span : Span) → AreInOrder (front ++ last ∷ back) → AreInOrder (front ++ lengthened last span ∷ back)
in_order-longer [] back last span h = h
in_order-longer (first ∷ front) back last span h =
    (all-other (λ other. starts_before other first ≡ false) front back last (lengthened last span) (λ is. is) h.0, in_order-longer front back last span h.1)

pub longer-are : (front back : List Span) (last span : Span) → AreSpans (front ++ last ∷ back) → AreSpans (front ++ lengthened last span ∷ back)
longer-are front back last span are = record {
  in_order = in_order-longer front back last span are.in_order;
  some = all-other (λ (other : Span). other.first ≤ other.last) front back last (lengthened last span) (λ is. grind (arith, nat_tests)) are.some;
}
