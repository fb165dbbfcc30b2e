-- The first numbers of a site, taken away.
use Rattle.std.proofs.Common.{◌≡◌, ℕ, ◌+◌, ◌<◌, ◌≤◌, Bool, true, false, cond, not, ◌&&◌, ◌||◌, List, [], ◌∷◌, refl, sym, ap, ◌∙◌, subst, arith}
use Rattle.std.specs.Prelude.{nat_le, nat_lt, ◌==◌, max, IfSome}
use Rattle.std.specs.List.{AllByRecursion}
use Rattle.std.proofs.lemmas.Bool.{and_parts, false≢true}
use Rattle.std.proofs.lemmas.Bool.Decides.{nat_tests}
use Rattle.aq_base.specs.Site.{Site}
use Rattle.aq_rules.specs.Office.Office.{comes_before}
use Rattle.aq_rules.specs.Office.Monitors.{is_same_site}
use Rattle.aq_rules.specs.Office.Sameness.{same_site}
use Rattle.aq_registry.proofs.AgreedLemmas.{all_follow}
use Rattle.aq_dirty.specs.declared.spans.Span.{Span}
use Rattle.aq_dirty.specs.Spans.{covers, first_of, holds, start_of, starts_before, AreInOrder, AreSpans, is_in_front, in_front, last_of, left_of}
use Rattle.aq_dirty.proofs.SpanOrder.{no_earlier}

-- ---- numbers

-- what is taken away, and what is left of two stretches that start before its end
apart : (same : Bool) (first end last n : ℕ) (others : Bool) → first ≤ end → (others && (same && nat_le first n && nat_le n end)) ≡ false
    → ((same && nat_le (end + 1) n && nat_le n last) || others) ≡ (((same && nat_le first n && nat_le n last) || others) && not (same && nat_le first n && nat_le n end))
apart true first end last n true low none = grind (arith, nat_tests)
apart true first end last n false low none = grind (arith, nat_tests)
apart false first end last n true low none = refl
apart false first end last n false low none = refl

together : (same : Bool) (first end last f l n : ℕ) (others : Bool) → first ≤ f → f ≤ end
    → (((same && nat_le first n && nat_le n (max last l)) || others) && not (same && nat_le first n && nat_le n end))
    ≡ (((same && nat_le first n && nat_le n last) || ((same && nat_le f n && nat_le n l) || others)) && not (same && nat_le first n && nat_le n end))
together true first end last f l n true low high = grind (arith, nat_tests)
together true first end last f l n false low high = grind (arith, nat_tests)
together false first end last f l n true low high = refl
together false first end last f l n false low high = refl

-- one part of two starts compared: what is decided stays so, whatever the rest
one_part : (x y : ℕ) (p q r : Bool) → (p ≡ false → q ≡ false → r ≡ false)
    → (nat_lt x y || ((x == y) && p)) ≡ false → ((y == x) && q) ≡ false → (nat_lt x y || ((x == y) && r)) ≡ false
one_part x y p q false h a b = grind (arith, nat_tests)
one_part x y true q true h a b = grind (arith, nat_tests)
one_part x y false true true h a b = grind (arith, nat_tests)
one_part x y false false true h a b = absurd (false≢true (sym (h refl refl)))

regroup : (a b c d : Bool) → (a && (b && (c && d))) ≡ (a && b && c && d)
regroup true true c d = refl
regroup true false c d = refl
regroup false b c d = refl

last_part : (f first end : ℕ) → (nat_lt f first || ((f == first) && false)) ≡ false → nat_le f end ≡ false → (nat_lt f (end + 1) || ((f == end + 1) && false)) ≡ false
last_part f first end a b = grind (arith, nat_tests)

equal_parts : (s c n f first : ℕ) → comes_before (s ∷ c ∷ n ∷ f ∷ []) (s ∷ c ∷ n ∷ first ∷ []) ≡ false → first ≤ f
equal_parts s c n f first h = grind (arith, nat_tests)

or_none : (a b c : Bool) → (a && c) ≡ false → (b && c) ≡ false → ((a || b) && c) ≡ false
or_none true b c p q = p
or_none false b c p q = q

-- ---- spans behind the end

module _ (front : Span) (end : ℕ) (low : front.first ≤ end) where
  abbrev pub up_to : ℕ → Span
  up_to last = record front { last = last }

  abbrev pub behind : ℕ → Span
  behind last = record { site = front.site; first = end + 1; last = last }

  abbrev pub IsBehind : Span → Type 0
  IsBehind span = starts_before span (behind 0) ≡ false

  abbrev pub NoEarlier : Span → Type 0
  NoEarlier span = starts_before span front ≡ false

  not_in_front : (span : Span) → NoEarlier span → in_front front end span ≡ false → IsBehind span
  not_in_front span later out =
      one_part span.site.state front.site.state _ _ _
      (one_part span.site.county front.site.county _ _ _ (one_part span.site.number front.site.number _ _ _ (last_part span.first front.first end)))
      later (regroup (front.site.state == span.site.state) (front.site.county == span.site.county) (front.site.number == span.site.number) (nat_le span.first end) ∙ out)

  no_number : (site : Site) (number : ℕ) (span : Span) → IsBehind span → (covers site number span && covers site number (up_to end)) ≡ false
  no_number site number span later = choose (is_same_site span.site site) (is_same_site front.site site) refl refl
    where
      choose : (a b : Bool) → is_same_site span.site site ≡ a → is_same_site front.site site ≡ b
          → ((a && nat_le span.first number && nat_le number span.last) && (b && nat_le front.first number && nat_le number end)) ≡ false
      choose false b is also = refl
      choose true false is also = grind (arith, nat_tests)
      choose true true is also =
          let one : span.site ≡ front.site = same_site span.site site is ∙ sym (same_site front.site site also) in
          let more : end + 1 ≤ span.first = equal_parts front.site.state front.site.county front.site.number span.first (end + 1)
          (subst (λ (t : Site). comes_before (t.state ∷ t.county ∷ t.number ∷ span.first ∷ []) (start_of (behind 0)) ≡ false) one later) in
          grind (arith, nat_tests)

  none : (site : Site) (number : ℕ) (spans : List Span) → AllByRecursion IsBehind spans → (holds site number spans && covers site number (up_to end)) ≡ false
  none site number [] all = refl
  none site number (span ∷ spans) all =
      or_none (covers site number span) (holds site number spans) (covers site number (up_to end)) (no_number site number span all.0) (none site number spans all.1)

  all_behind : (span : Span) (spans : List Span) → IsBehind span → AllByRecursion (λ other. starts_before other span ≡ false) spans → AllByRecursion IsBehind spans
  all_behind span spans first later =
      all_follow (λ other. starts_before other span ≡ false) IsBehind (λ other is. no_earlier (start_of (behind 0)) (start_of span) (start_of other) first is) spans later

  left-behind : (spans : List Span) → AllByRecursion NoEarlier spans → AreInOrder spans → AllByRecursion IsBehind (left_of front end spans)
  left-behind [] later h = tt
  left-behind (span ∷ spans) later h = choose (in_front front end span) refl (left-behind spans later.1 h.1)
    where
      choose : (b : Bool) → in_front front end span ≡ b → AllByRecursion IsBehind (left_of front end spans)
          → AllByRecursion IsBehind (cond b (left_of front end spans) (span ∷ spans))
      choose true is rest = rest
      choose false is rest = let first = not_in_front span later.0 is in (first, all_behind span spans first h.0)

  left-in_order : (spans : List Span) → AreInOrder spans → AreInOrder (left_of front end spans)
  left-in_order [] h = tt
  left-in_order (span ∷ spans) h =
      elim (in_front front end span) as (λ b. AreInOrder (cond b (left_of front end spans) (span ∷ spans))) [ true ↦ left-in_order spans h.1 | false ↦ h ]

  left-all : (P : Span → Type 0) (spans : List Span) → AllByRecursion P spans → AllByRecursion P (left_of front end spans)
  left-all P [] all = tt
  left-all P (span ∷ spans) all =
      elim (in_front front end span) as (λ b. AllByRecursion P (cond b (left_of front end spans) (span ∷ spans))) [ true ↦ left-all P spans all.1 | false ↦ all ]

  -- ---- what is left holds what was held, but for the numbers in front

  dropped : (site : Site) (number last : ℕ) (spans : List Span) → AllByRecursion NoEarlier spans → AreInOrder spans
      → (covers site number (behind (last_of front end last spans)) || holds site number (left_of front end spans))
      ≡ ((covers site number (up_to last) || holds site number spans) && not (covers site number (up_to end)))
  dropped site number last [] later h = apart (is_same_site front.site site) front.first end last number false low refl
  dropped site number last (span ∷ spans) later h =
      choose (in_front front end span) refl (dropped site number (max last span.last) spans later.1 h.1)
    where
      choose : (b : Bool) → in_front front end span ≡ b
          → (covers site number (behind (last_of front end (max last span.last) spans)) || holds site number (left_of front end spans))
          ≡ ((covers site number (up_to (max last span.last)) || holds site number spans) && not (covers site number (up_to end)))
          → (covers site number (behind (cond b (last_of front end (max last span.last) spans) last)) || holds site number (cond b (left_of front end spans) (span ∷ spans)))
          ≡ ((covers site number (up_to last) || (covers site number span || holds site number spans)) && not (covers site number (up_to end)))
      choose false is rest =
          let first = not_in_front span later.0 is in
          apart (is_same_site front.site site) front.first end last number (holds site number (span ∷ spans)) low
          (none site number (span ∷ spans) (first, all_behind span spans first h.0))
      choose true is rest =
          let parts = and_parts (is_same_site front.site span.site) (nat_le span.first end) is in
          let one : front.site ≡ span.site = same_site front.site span.site parts.0 in
          let high : span.first ≤ end = (let t = parts.1 in grind (arith, nat_tests)) in
          let more : front.first ≤ span.first = equal_parts front.site.state front.site.county front.site.number span.first front.first
          (subst (λ (t : Site). comes_before (t.state ∷ t.county ∷ t.number ∷ span.first ∷ []) (start_of front) ≡ false) (sym one) later.0) in
          rest ∙ together (is_same_site front.site site) front.first end last span.first span.last number (holds site number spans) more high
          ∙ ap (λ (t : Site). (covers site number (up_to last) || ((is_same_site t site && nat_le span.first number && nat_le number span.last) || holds site number spans)) && not (covers site number (up_to end))) one

-- ---- the first span and those behind it

-- a list of spans of which the first one starts at `end` or before
pub record IsFront (now : List Span) (front : Span) (spans : List Span) (end : ℕ) : Type 0 where
  pub are : AreSpans (front ∷ spans)
  pub old : front ∷ spans ≡ now
  pub low : front.first ≤ end

pub is_front : (items now : List Span) (front : Span) (spans : List Span) (end : ℕ) → items ≡ now → items ≡ front ∷ spans → AreSpans items
    → IfSome (first_of now) (λ span. span.first ≤ end) → IsFront now front spans end
is_front items now front spans end seen split are low = record {
  are = subst AreSpans split are;
  old = sym split ∙ seen;
  low = subst (λ (l : List Span). IfSome (first_of l) (λ (span : Span). span.first ≤ end)) (sym seen ∙ split) low;
}

module _ (now : List Span) (front : Span) (spans : List Span) (end : ℕ) (is : IsFront now front spans end) where
  abbrev pub reach : ℕ
  reach = last_of front end front.last spans

  abbrev pub left : List Span
  left = left_of front end spans

  -- what is left if the spans in front end behind `end`, and if they do not
  abbrev pub longer : ℕ → List Span → List Span
  longer last others = behind front end is.low last ∷ others

  pub rest-are : (new : List Span) → new ≡ left → AreSpans new
  rest-are new made = subst AreSpans (sym made) (record {
    in_order = left-in_order front end is.low spans is.are.in_order.1;
    some = left-all front end is.low (λ (span : Span). span.first ≤ span.last) spans is.are.some.1;
  })

  pub longer-are : (last : ℕ) (others new : List Span) → last ≡ reach → others ≡ left → end < last → new ≡ longer last others → AreSpans new
  longer-are last others new to same more made =
      let rest = rest-are left refl in
      subst AreSpans (sym (made ∙ (λ i. longer (to i) (same i)))) (record {
        in_order = (left-behind front end is.low spans is.are.in_order.0 is.are.in_order.1, rest.in_order);
        some = (omega (arith, to, more), rest.some);
      })

  settled : (site : Site) (number : ℕ) → holds site number (longer reach left) ≡ (holds site number now && not (is_in_front now end site number))
  settled site number =
      dropped front end is.low site number front.last spans is.are.in_order.0 is.are.in_order.1
      ∙ ap (λ (l : List Span). holds site number l && not (is_in_front l end site number)) is.old

  pub longer-holds : (last : ℕ) (others new : List Span) → last ≡ reach → others ≡ left → new ≡ longer last others
      → (site : Site) (number : ℕ) → holds site number new ≡ (holds site number now && not (is_in_front now end site number))
  longer-holds last others new to same made site number =
      ap (λ (l : List Span). holds site number l) (made ∙ (λ i. longer (to i) (same i))) ∙ settled site number

  pub rest-holds : (last : ℕ) (new : List Span) → last ≡ reach → new ≡ left → last ≤ end
      → (site : Site) (number : ℕ) → holds site number new ≡ (holds site number now && not (is_in_front now end site number))
  rest-holds last new to made short site number =
      ap (λ (l : List Span). holds site number l) made
      ∙ ap (λ b. b || holds site number left) (sym (nothing (is_same_site front.site site) reach number (omega (arith, to, short))))
      ∙ settled site number
    where
      nothing : (same : Bool) (last n : ℕ) → last ≤ end → (same && nat_le (end + 1) n && nat_le n last) ≡ false
      nothing true last n h = grind (arith, nat_tests)
      nothing false last n h = refl
