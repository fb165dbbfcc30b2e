-- The agreed events: their order, their reaches, and what a binary search of them finds.
use Rattle.std.proofs.Common.{◌≡◌, ℕ, ◌≤◌, ◌<◌, Bool, true, false, ◌&&◌, ◌||◌, ◌==◌, List, [], ◌∷◌, ◌++◌, cond, refl, ap, sym, subst, ◌∙◌, arith, inl, inr, suc, zero, Option, Some, None}
use Rattle.std.specs.Prelude.{not, length, take, drop, filter, nat_lt, bytes_eq, slice_index_or}
use Rattle.std.specs.List.{AllByRecursion, AllWithin, list_any}
use Rattle.std.specs.List.Sorted.{IsPartitionedBy, IsPartitionPoint}
use Rattle.std.proofs.lemmas.Bool.{false≢true, cases_Bool}
use Rattle.std.proofs.lemmas.Bool.Decides.{nat_tests}
use Rattle.std.proofs.lemmas.Slice.Eq.{bytes_eq-Decides}
use Rattle.aq_rules.specs.Office.Office.{comes_before}
use Rattle.aq_rules.specs.Office.RowOrder.{before-trans, before-total}
use Rattle.aq_registry.specs.declared.agreed.Start.{Start}
use Rattle.aq_registry.specs.declared.agreed.Span.{Span}
use Rattle.aq_registry.specs.declared.agreed.Entry.{Entry}
use Rattle.aq_registry.specs.Agreed.{numbers_of, starts_before, with_span, AreInOrder, spans_of, passes, renewed, has_number, without_number}

-- ---- the order of numbers

not_itself : (x : ℕ) (b : Bool) → b ≡ false → (nat_lt x x || ((x == x) && b)) ≡ false
not_itself x b h = grind (arith, nat_tests)

pub before-itself : (a : List ℕ) → comes_before a a ≡ false
before-itself [] = refl
before-itself (x ∷ a) = not_itself x (comes_before a a) (before-itself a)

both_ways : (a b : Bool) → (a ≡ true → b ≡ true → true ≡ false) → a ≡ true → b ≡ false
both_ways a false h p = refl
both_ways a true h p = h p refl

pub before-asym : (a b : List ℕ) → comes_before a b ≡ true → comes_before b a ≡ false
before-asym a b p = both_ways (comes_before a b) (comes_before b a) (λ p q. sym (before-trans a b a p q) ∙ before-itself a) p

pub equal-lists : (a b : List ℕ) → bytes_eq a b ≡ true → a ≡ b
equal-lists a b h = (bytes_eq-Decides a b).0 h

before-up_to : (a b c : List ℕ) → comes_before a b ≡ true → comes_before c b ≡ false → comes_before a c ≡ true
before-up_to a b c p q =
    elim (cases_Bool (bytes_eq c b)) [
      | inl same ↦ subst (λ d. comes_before a d ≡ true) (sym (equal-lists c b same)) p
      | inr other ↦ before-trans a b c p (before-total c b q other)
    ]

-- ---- lists

pub all_follow : {X : Type 0} (P Q : X → Type 0) → ((x : X) → P x → Q x) → (xs : List X) → AllByRecursion P xs → AllByRecursion Q xs
all_follow P Q h [] all = tt
all_follow P Q h (x ∷ xs) all = (h x all.0, all_follow P Q h xs all.1)

all-filter : {X : Type 0} (P : X → Type 0) (keep : X → Bool) (xs : List X) → AllByRecursion P xs → AllByRecursion P (filter keep xs)
all-filter P keep [] all = tt
all-filter P keep (x ∷ xs) all =
    elim (keep x) as (λ b. AllByRecursion P (cond b (x ∷ filter keep xs) (filter keep xs))) [
      | true ↦ (all.0, all-filter P keep xs all.1)
      | false ↦ all-filter P keep xs all.1
    ]

pub front-all : {X : Type 0} (P : X → Type 0) (xs : List X) (n : ℕ) → n ≤ length xs → AllWithin P xs 0 n → AllByRecursion P (take n xs)
front-all P xs zero h all = tt
front-all P [] (suc n) h all = tt
front-all P (x ∷ xs) (suc n) h all = (all 0 x (omega arith) (omega arith), front-all P xs n (omega arith) (λ k d low high. all (suc k) d (omega arith) (omega arith)))

pub back-all : {X : Type 0} (P : X → Type 0) (xs : List X) (n : ℕ) → AllWithin P xs n (length xs) → AllByRecursion P (drop n xs)
back-all P [] zero all = tt
back-all P [] (suc n) all = tt
back-all P (x ∷ xs) zero all = (all 0 x (omega arith) (omega arith), back-all P xs zero (λ k d low high. all (suc k) d (omega arith) (omega arith)))
back-all P (x ∷ xs) (suc n) all = back-all P xs n (λ k d low high. all (suc k) d (omega arith) (omega arith))

-- ---- events in their order

all-with_span : (P : Span → Type 0) (span : Span) (spans : List Span) → P span → AllByRecursion P spans → AllByRecursion P (with_span span spans)
all-with_span P span [] h all = (h, tt)
all-with_span P span (first ∷ spans) h all =
    elim (starts_before span.start first.start) as (λ b. AllByRecursion P (cond b (span ∷ first ∷ spans) (first ∷ with_span span spans))) [
      | true ↦ (h, all)
      | false ↦ (all.0, all-with_span P span spans h all.1)
    ]

pub with_span-in_order : (span : Span) (spans : List Span) → AreInOrder spans → AreInOrder (with_span span spans)
with_span-in_order span [] h = (tt, tt)
with_span-in_order span (first ∷ spans) h =
    let at : (b : Bool) → starts_before span.start first.start ≡ b → AreInOrder (cond b (span ∷ first ∷ spans) (first ∷ with_span span spans)) =
    elim [
      | true ↦ λ before. (
        (
          before-asym (numbers_of span.start) (numbers_of first.start) before,
          all_follow (λ other. starts_before other.start first.start ≡ false) (λ other. starts_before other.start span.start ≡ false)
              (λ other behind. before-asym (numbers_of span.start) (numbers_of other.start) (before-up_to (numbers_of span.start) (numbers_of first.start) (numbers_of other.start) before behind)) spans h.0,
        ),
        h,
      )
      | false ↦ λ behind. (all-with_span (λ other. starts_before other.start first.start ≡ false) span spans behind h.0, with_span-in_order span spans h.1)
    ]
    in
    at (starts_before span.start first.start) refl

pub filter-in_order : (keep : Span → Bool) (spans : List Span) → AreInOrder spans → AreInOrder (filter keep spans)
filter-in_order keep [] h = tt
filter-in_order keep (span ∷ spans) h =
    elim (keep span) as (λ b. AreInOrder (cond b (span ∷ filter keep spans) (filter keep spans))) [
      | true ↦ (all-filter (λ other. starts_before other.start span.start ≡ false) keep spans h.0, filter-in_order keep spans h.1)
      | false ↦ filter-in_order keep spans h.1
    ]

pub renewed-in_order : (number : ℕ) (span : Option Span) (spans : List Span) → AreInOrder spans → AreInOrder (renewed number span spans)
renewed-in_order number None spans h = filter-in_order (λ (span : Span). not (span.number == number)) spans h
renewed-in_order number (Some span) spans h = with_span-in_order span (without_number number spans) (filter-in_order (λ (span : Span). not (span.number == number)) spans h)

pub spans-filter : (keep : Span → Bool) (entries : List Entry) → spans_of (filter (λ (entry : Entry). keep entry.span) entries) ≡ filter keep (spans_of entries)
spans-filter keep [] = refl
spans-filter keep (entry ∷ entries) =
    elim (keep entry.span) as (λ b. spans_of (cond b (entry ∷ filter (λ (entry : Entry). keep entry.span) entries) (filter (λ (entry : Entry). keep entry.span) entries)) ≡ cond b (entry.span ∷ filter keep (spans_of entries)) (filter keep (spans_of entries))) [
      | true ↦ ap (λ (l : List Span). entry.span ∷ l) (spans-filter keep entries)
      | false ↦ spans-filter keep entries
    ]

pub spans-inserted : (entry : Entry) (entries : List Entry) (n : ℕ) → AllByRecursion (λ (other : Entry). starts_before entry.span.start other.span.start ≡ false) (take n entries) → AllByRecursion (λ (other : Entry). starts_before entry.span.start other.span.start ≡ true) (drop n entries) → spans_of (take n entries ++ entry ∷ drop n entries) ≡ with_span entry.span (spans_of entries)
spans-inserted entry [] zero front back = refl
spans-inserted entry [] (suc n) front back = refl
spans-inserted entry (first ∷ entries) zero front back =
    sym (ap (λ b. cond b (entry.span ∷ first.span ∷ spans_of entries) (first.span ∷ with_span entry.span (spans_of entries))) back.0)
spans-inserted entry (first ∷ entries) (suc n) front back =
    ap (λ (l : List Span). first.span ∷ l) (spans-inserted entry entries n front.1 back)
    ∙ sym (ap (λ b. cond b (entry.span ∷ first.span ∷ spans_of entries) (first.span ∷ with_span entry.span (spans_of entries))) front.0)

-- ---- the search

at_later : (P : Span → Type 0) (entries : List Entry) (j : ℕ) (d : Entry) → AllByRecursion P (spans_of entries) → j < length entries → P ((slice_index_or entries j d).span)
at_later P [] j d all h = absurd (omega (arith, h))
at_later P (entry ∷ entries) zero d all h = all.0
at_later P (entry ∷ entries) (suc j) d all h = at_later P entries j d all.1 (omega arith)

abbrev pub is_up_to : Start → Entry → Bool
is_up_to at entry = not (starts_before at entry.span.start)

pub partitioned : (at : Start) (entries : List Entry) → AreInOrder (spans_of entries) → IsPartitionedBy (is_up_to at) entries
partitioned at [] h i j d low high p = absurd (omega (arith, high))
partitioned at (entry ∷ entries) h zero zero d low high p = p
partitioned at (entry ∷ entries) h (suc i) zero d low high p = absurd (omega (arith, low))
partitioned at (entry ∷ entries) h (suc i) (suc j) d low high p = partitioned at entries h.1 i j d (omega arith) (omega arith) p
partitioned at (entry ∷ entries) h zero (suc j) d low high p =
    let to : (b : Bool) → starts_before at entry.span.start ≡ b → not b ≡ true =
    elim [
      | true ↦ λ before.
          let behind : starts_before at (slice_index_or entries j d).span.start ≡ true =
          before-up_to (numbers_of at) (numbers_of entry.span.start) (numbers_of (slice_index_or entries j d).span.start) before
          (at_later (λ other. starts_before other.start entry.span.start ≡ false) entries j d h.0 (omega arith))
          in
          absurd (false≢true (ap not (sym behind) ∙ p))
      | false ↦ λ _. refl
    ]
    in
    to (starts_before at entry.span.start) refl

up_to : (a : Bool) → not a ≡ true → a ≡ false
up_to true h = absurd (false≢true h)
up_to false h = refl

not_up_to : (a : Bool) → not a ≡ false → a ≡ true
not_up_to true h = refl
not_up_to false h = absurd (false≢true (sym h))

-- the entries before a partition point, and those from it on
pub point-front : (at : Start) (entries : List Entry) (n : ℕ) → n ≤ length entries → IsPartitionPoint (λ entry. is_up_to at entry ≡ true) (λ entry. is_up_to at entry ≡ false) entries n → AllByRecursion (λ entry. starts_before at entry.span.start ≡ false) (take n entries)
point-front at entries n h point =
    all_follow (λ entry. is_up_to at entry ≡ true) (λ entry. starts_before at entry.span.start ≡ false) (λ entry is. up_to (starts_before at entry.span.start) is) (take n entries)
    (front-all (λ entry. is_up_to at entry ≡ true) entries n h point.0)

pub point-back : (at : Start) (entries : List Entry) (n : ℕ) → IsPartitionPoint (λ entry. is_up_to at entry ≡ true) (λ entry. is_up_to at entry ≡ false) entries n → AllByRecursion (λ entry. starts_before at entry.span.start ≡ true) (drop n entries)
point-back at entries n point =
    all_follow (λ entry. is_up_to at entry ≡ false) (λ entry. starts_before at entry.span.start ≡ true) (λ entry is. not_up_to (starts_before at entry.span.start) is) (drop n entries)
    (back-all (λ entry. is_up_to at entry ≡ false) entries n point.1)

-- ---- tests of the events

or_swap : (a b c : Bool) → (a || (b || c)) ≡ (b || (a || c))
or_swap true true c = refl
or_swap true false c = refl
or_swap false b c = refl

any-with_span : (test : Span → Bool) (span : Span) (spans : List Span) → list_any test (with_span span spans) ≡ (test span || list_any test spans)
any-with_span test span [] = refl
any-with_span test span (first ∷ spans) =
    elim (starts_before span.start first.start) as (λ b. list_any test (cond b (span ∷ first ∷ spans) (first ∷ with_span span spans)) ≡ (test span || (test first || list_any test spans))) [
      | true ↦ refl
      | false ↦ ap (λ b. test first || b) (any-with_span test span spans) ∙ or_swap (test first) (test span) (list_any test spans)
    ]

any-kept : (test keep : Span → Bool) (spans : List Span) → list_any test (filter keep spans) ≡ list_any (λ span. keep span && test span) spans
any-kept test keep [] = refl
any-kept test keep (span ∷ spans) =
    elim (keep span) as (λ b. list_any test (cond b (span ∷ filter keep spans) (filter keep spans)) ≡ ((b && test span) || list_any (λ span. keep span && test span) spans)) [
      | true ↦ ap (λ b. test span || b) (any-kept test keep spans)
      | false ↦ any-kept test keep spans
    ]

-- a test of the events but those of a number
abbrev pub but : ℕ → (Span → Bool) → Span → Bool
but number test span = not (span.number == number) && test span

pub any-renewed : (test : Span → Bool) (number : ℕ) (span : Option Span) (spans : List Span) → list_any test (renewed number span spans) ≡ (passes test span || list_any (but number test) spans)
any-renewed test number None spans = any-kept test (λ (span : Span). not (span.number == number)) spans
any-renewed test number (Some span) spans =
    any-with_span test span (without_number number spans) ∙ ap (λ b. test span || b) (any-kept test (λ (span : Span). not (span.number == number)) spans)

-- if there is no event of a number, none is left out
pub without-none : (number : ℕ) (spans : List Span) → has_number number spans ≡ false → without_number number spans ≡ spans
without-none number [] h = refl
without-none number (span ∷ spans) h = choose (span.number == number) h (without-none number spans)
  where
    choose : (b : Bool) → (b || has_number number spans) ≡ false → (has_number number spans ≡ false → without_number number spans ≡ spans)
        → cond (not b) (span ∷ without_number number spans) (without_number number spans) ≡ span ∷ spans
    choose true h rest = absurd (false≢true (sym h))
    choose false h rest = ap (λ (l : List Span). span ∷ l) (rest h)
