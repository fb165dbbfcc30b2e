-- How far the agreed events up to each one reach.
use Rattle.std.proofs.Common.{◌≡◌, ℕ, ◌+◌, ◌-◌, ◌≤◌, ◌<◌, Bool, true, false, ◌&&◌, ◌||◌, ◌==◌, List, [], ◌∷◌, ◌++◌, cond, Option, Some, None, refl, ap, sym, ◌∙◌, arith, inl, inr, suc, zero}
use Rattle.std.specs.Prelude.{length, take, drop, nat_le, nat_lt, bytes_eq, slice_index_or, slice_set, ⊤}
use Rattle.std.specs.List.{AllByRecursion, list_any, last_or}
use Rattle.std.proofs.lemmas.Bool.{false≢true, cases_Bool}
use Rattle.std.proofs.lemmas.Bool.Decides.{nat_tests}
use Rattle.aq_rules.specs.Office.Office.{is_same, comes_before}
use Rattle.aq_rules.specs.Office.RowOrder.{before-total}
use Rattle.aq_registry.specs.declared.agreed.Start.{Start}
use Rattle.aq_registry.specs.declared.agreed.Span.{Span}
use Rattle.aq_registry.specs.declared.agreed.Entry.{Entry}
use Rattle.aq_registry.specs.Agreed.{series_of, is_same_series, starts_before, covers, AreInOrder, spans_of, entry_behind, AreReached, AreChained, AreAgreed, does_reach}
use Rattle.aq_registry.proofs.AgreedLemmas.{before-itself, equal-lists}

pub next : (i : ℕ) → suc i ≡ i + 1
next i = omega arith

-- ---- entries one by one

pub last-taken : (before : Option Entry) (entries : List Entry) (n : ℕ) (d : Entry) → n < length entries → Some (slice_index_or entries n d) ≡ last_or before (take (suc n) entries)
last-taken before [] n d h = absurd (omega (arith, h))
last-taken before (entry ∷ entries) zero d h = refl
last-taken before (entry ∷ entries) (suc n) d h = last-taken (Some entry) entries n d (omega arith)

pub reached-take : (before : Option Entry) (entries : List Entry) (n : ℕ) → AreReached before entries → AreReached before (take n entries)
reached-take before entries zero h = tt
reached-take before [] (suc n) h = tt
reached-take before (entry ∷ entries) (suc n) h = (h.0, reached-take (Some entry) entries n h.1)

pub reached-set : (before : Option Entry) (entries : List Entry) (i : ℕ) (d entry : Entry) → i < length entries → AreReached before (take i entries) → entry ≡ entry_behind (last_or before (take i entries)) entry.span → AreReached before (take (suc i) (slice_set entries i entry))
reached-set before [] i d entry h reached is = absurd (omega (arith, h))
reached-set before (first ∷ entries) zero d entry h reached is = (is, tt)
reached-set before (first ∷ entries) (suc i) d entry h reached is = (reached.0, reached-set (Some first) entries i d entry (omega arith) reached.1 is)

-- an entry put after others, and what follows from them
pub reached-inserted : (before : Option Entry) (entries : List Entry) (n : ℕ) (entry : Entry) → AreReached before entries → entry ≡ entry_behind (last_or before (take n entries)) entry.span → AreReached before (take (suc n) (take n entries ++ entry ∷ drop n entries))
reached-inserted before [] zero entry h is = (is, tt)
reached-inserted before [] (suc n) entry h is = (is, tt)
reached-inserted before (first ∷ entries) zero entry h is = (is, tt)
reached-inserted before (first ∷ entries) (suc n) entry h is = (h.0, reached-inserted (Some first) entries n entry h.1 is)

pub chained-inserted : (before : Option Entry) (entries : List Entry) (n : ℕ) (entry : Entry) → AreReached before entries → AreChained (drop (suc n) (take n entries ++ entry ∷ drop n entries))
chained-inserted before [] zero entry h = tt
chained-inserted before [] (suc n) entry h = tt
chained-inserted before (first ∷ entries) zero entry h = h.1
chained-inserted before (first ∷ entries) (suc n) entry h = chained-inserted (Some first) entries n entry h.1

chained-of : (entry : Entry) (entries : List Entry) → AreReached (Some entry) entries → AreChained entries
chained-of entry [] h = tt
chained-of entry (next ∷ entries) h = h.1

pub chained-set : (entries : List Entry) (i : ℕ) (entry : Entry) → AreChained (drop i entries) → AreChained (drop (suc i) (slice_set entries i entry))
chained-set [] zero entry h = tt
chained-set [] (suc i) entry h = tt
chained-set (first ∷ entries) zero entry h = chained-of first entries h
chained-set (first ∷ entries) (suc i) entry h = chained-set entries i entry h

-- if an entry is as it should be, and those after it follow from it, all are
pub reached-whole : (before : Option Entry) (entries : List Entry) (i : ℕ) (d : Entry) → i < length entries → AreReached before (take i entries) → AreChained (drop i entries) → slice_index_or entries i d ≡ entry_behind (last_or before (take i entries)) ((slice_index_or entries i d).span) → AreReached before entries
reached-whole before [] i d h reached chained is = absurd (omega (arith, h))
reached-whole before (first ∷ entries) zero d h reached chained is = (is, chained)
reached-whole before (first ∷ entries) (suc i) d h reached chained is = (reached.0, reached-whole (Some first) entries i d (omega arith) reached.1 chained is)

pub last-set : (before : Option Entry) (entries : List Entry) (i : ℕ) (entry : Entry) → i < length entries → Some entry ≡ last_or before (take (suc i) (slice_set entries i entry))
last-set before [] i entry h = absurd (omega (arith, h))
last-set before (first ∷ entries) zero entry h = refl
last-set before (first ∷ entries) (suc i) entry h = last-set (Some first) entries i entry (omega arith)

pub spans-set : (entries : List Entry) (i : ℕ) (d entry : Entry) → i < length entries → entry.span ≡ (slice_index_or entries i d).span → spans_of (slice_set entries i entry) ≡ spans_of entries
spans-set [] i d entry h is = absurd (omega (arith, h))
spans-set (first ∷ entries) zero d entry h is = ap (λ (span : Span). span ∷ spans_of entries) is
spans-set (first ∷ entries) (suc i) d entry h is = ap (λ (l : List Span). first.span ∷ l) (spans-set entries i d entry (omega arith) is)

-- ---- a series and an hour

by_hour : (m n : ℕ) → (nat_lt m n || ((m == n) && false)) ≡ nat_lt m n
by_hour m n = elim (m == n) as (λ b. (nat_lt m n || (b && false)) ≡ nat_lt m n) [ true ↦ or_none (nat_lt m n) | false ↦ or_none (nat_lt m n) ]
  where
    or_none : (a : Bool) → (a || false) ≡ a
    or_none true = refl
    or_none false = refl

spread : (a e c f l : Bool) → (a || (e && (c || (f && l)))) ≡ ((a || (e && c)) || ((e && f) && l))
spread true e c f l = refl
spread false true c f l = refl
spread false false c f l = refl

one_more : (xs ys : List ℕ) (m n : ℕ) → length xs ≡ length ys → comes_before (xs ++ m ∷ []) (ys ++ n ∷ []) ≡ (comes_before xs ys || (bytes_eq xs ys && nat_lt m n))
one_more [] [] m n h = by_hour m n
one_more (x ∷ xs) (y ∷ ys) m n h =
    ap (λ b. nat_lt x y || ((x == y) && b)) (one_more xs ys m n (omega (arith, h)))
    ∙ spread (nat_lt x y) (x == y) (comes_before xs ys) (bytes_eq xs ys) (nat_lt m n)
one_more [] (y ∷ ys) m n h = absurd (omega (arith, h))
one_more (x ∷ xs) [] m n h = absurd (omega (arith, h))

by_series : (a b : Start) → starts_before a b ≡ (comes_before (series_of a) (series_of b) || (is_same_series a b && nat_lt a.hour b.hour))
by_series a b = one_more (series_of a) (series_of b) a.hour b.hour refl

first_of_either : (a b : Bool) → (a || b) ≡ false → a ≡ false
first_of_either true b h = absurd (false≢true (sym h))
first_of_either false b h = refl

second_of_either : (a b : Bool) → (a || b) ≡ false → b ≡ false
second_of_either true b h = absurd (false≢true (sym h))
second_of_either false b h = h

series-not : (a b : Start) → starts_before a b ≡ false → comes_before (series_of a) (series_of b) ≡ false
series-not a b h = first_of_either _ (is_same_series a b && nat_lt a.hour b.hour) (sym (by_series a b) ∙ h)

same-series : (a b : Start) → is_same_series a b ≡ true → series_of a ≡ series_of b
same-series a b h = equal-lists (series_of a) (series_of b) h

number_itself : (x : ℕ) (b : Bool) → b ≡ true → ((x == x) && b) ≡ true
number_itself x b h = grind (arith, nat_tests)

list_itself : (a : List ℕ) → bytes_eq a a ≡ true
list_itself [] = refl
list_itself (x ∷ a) = number_itself x (bytes_eq a a) (list_itself a)

same-through : (a b c : Start) → is_same_series a b ≡ true → is_same_series a c ≡ true → is_same_series b c ≡ true
same-through a b c p q =
    ap (λ l. is_same l (series_of c)) (sym (same-series a b p)) ∙ q

same-flip : (a b : Start) → is_same_series a b ≡ true → is_same_series b a ≡ true
same-flip a b p = ap (λ l. is_same l (series_of a)) (sym (same-series a b p)) ∙ list_itself (series_of a)

-- what starts between two events of one series is of the series
between : (before event at : Start) → starts_before event before ≡ false → starts_before at event ≡ false → is_same_series before at ≡ true → is_same_series event at ≡ true
between before event at low high same =
    elim (cases_Bool (is_same_series event at)) [
      | inl is ↦ is
      | inr other ↦
          let behind : comes_before (series_of event) (series_of at) ≡ false = ap (comes_before (series_of event)) (sym (same-series before at same)) ∙ series-not event before low in
          absurd (false≢true (sym (series-not at event high) ∙ before-total (series_of event) (series_of at) behind other))
    ]

hour_not_before : (a b : ℕ) → nat_lt a b ≡ false → nat_le b a ≡ true
hour_not_before a b h = grind (arith, nat_tests)

hour_before : (a b : ℕ) → nat_lt a b ≡ true → nat_le b a ≡ false
hour_before a b h = grind (arith, nat_tests)

hour-not : (event at : Start) → is_same_series event at ≡ true → starts_before at event ≡ false → nat_le event.hour at.hour ≡ true
hour-not event at same high =
    hour_not_before at.hour event.hour
    (ap (λ b. b && nat_lt at.hour event.hour) (sym (same-flip event at same))
    ∙ second_of_either (comes_before (series_of at) (series_of event)) _ (sym (by_series at event) ∙ high))

hour-behind : (event at : Start) → is_same_series event at ≡ true → starts_before at event ≡ true → nat_le event.hour at.hour ≡ false
hour-behind event at same high =
    hour_before at.hour event.hour
    (ap (λ b. b && nat_lt at.hour event.hour) (sym (same-flip event at same))
    ∙ ap (λ b. b || (is_same_series at event && nat_lt at.hour event.hour)) (sym (ap (comes_before (series_of at)) (same-series event at same) ∙ before-itself (series_of at)))
    ∙ sym (by_series at event) ∙ high)

-- an event that starts after the hour does not cover it
behind-not : (at : Start) (span : Span) → starts_before at span.start ≡ true → covers at span ≡ false
behind-not at span behind =
    let to : (b : Bool) → is_same_series span.start at ≡ b → (b && nat_le span.start.hour at.hour && nat_le at.hour span.last) ≡ false =
    elim [
      | true ↦ λ same. ap (λ b. b && nat_le at.hour span.last) (hour-behind span.start at same behind)
      | false ↦ λ _. refl
    ]
    in
    to (is_same_series span.start at) refl

-- ---- one event after another

further : (at reach last : ℕ) → (nat_le at reach || nat_le at last) ≡ nat_le at (cond (nat_lt last reach) reach last)
further at reach last = grind (arith, nat_tests)

inside : (at reach last : ℕ) (hour b d : Bool) → hour ≡ true → (b ≡ true → d ≡ true) → (d ≡ true → b ≡ true) → ((b && nat_le at reach) || (hour && nat_le at last)) ≡ nat_le at (cond (d && nat_lt last reach) reach last)
inside at reach last hour true true h to from = ap (λ x. nat_le at reach || (x && nat_le at last)) h ∙ further at reach last
inside at reach last hour true false h to from = absurd (false≢true (to refl))
inside at reach last hour false true h to from = absurd (false≢true (from refl))
inside at reach last hour false false h to from = ap (λ x. x && nat_le at last) h

outside : (b x : Bool) → (b ≡ true → false ≡ true) → ((b && x) || false) ≡ false
outside true x h = absurd (false≢true (h refl))
outside false x h = refl

same-both : (a b c : Start) → is_same_series a c ≡ true → is_same_series b c ≡ true → is_same_series a b ≡ true
same-both a b c p q = same-through c a b (same-flip a c p) (same-flip b c q)

same-chain : (a b c : Start) → is_same_series a b ≡ true → is_same_series b c ≡ true → is_same_series a c ≡ true
same-chain a b c p q = same-through b a c (same-flip a b p) q

-- whether an event does not start before an entry
abbrev IsOrdered : Option Entry → Span → Type 0
IsOrdered None span = ⊤
IsOrdered (Some before) span = starts_before span.start before.span.start ≡ false

step : (at : Start) (before : Option Entry) (span : Span) → IsOrdered before span → starts_before at span.start ≡ false → (does_reach at before || covers at span) ≡ does_reach at (Some (entry_behind before span))
step at None span order high =
    let to : (b : Bool) → is_same_series span.start at ≡ b → (b && nat_le span.start.hour at.hour && nat_le at.hour span.last) ≡ (b && nat_le at.hour span.last) =
    elim [
      | true ↦ λ same. ap (λ b. b && nat_le at.hour span.last) (hour-not span.start at same high)
      | false ↦ λ _. refl
    ]
    in
    to (is_same_series span.start at) refl
step at (Some before) span order high =
    let b = is_same_series before.span.start at in
    let d = is_same_series before.span.start span.start in
    let to : (c : Bool) → is_same_series span.start at ≡ c → ((b && nat_le at.hour before.reach) || (c && nat_le span.start.hour at.hour && nat_le at.hour span.last)) ≡ (c && nat_le at.hour (cond (d && nat_lt span.last before.reach) before.reach span.last)) =
    elim [
      | true ↦ λ same.
          inside at.hour before.reach span.last (nat_le span.start.hour at.hour) b d (hour-not span.start at same high)
          (λ f. same-both before.span.start span.start at f same) (λ e. same-chain before.span.start span.start at e same)
      | false ↦ λ other. outside b (nat_le at.hour before.reach) (λ f. sym other ∙ between before.span.start span.start at order high f)
    ]
    in
    to (is_same_series span.start at) refl

or_last : (a : Bool) → (a || false) ≡ a
or_last true = refl
or_last false = refl

or_three : (a b c : Bool) → (a || (b || c)) ≡ ((a || b) || c)
or_three true b c = refl
or_three false b c = refl

covered : (at : Start) (before : Option Entry) (entries : List Entry) → AllByRecursion (IsOrdered before) (spans_of entries) → AreInOrder (spans_of entries) → AreReached before entries → AllByRecursion (λ (entry : Entry). starts_before at entry.span.start ≡ false) entries → (does_reach at before || list_any (covers at) (spans_of entries)) ≡ does_reach at (last_or before entries)
covered at before [] ordered sorted reached up = or_last (does_reach at before)
covered at before (entry ∷ entries) ordered sorted reached up =
    or_three (does_reach at before) (covers at entry.span) (list_any (covers at) (spans_of entries))
    ∙ ap (λ b. b || list_any (covers at) (spans_of entries)) (step at before entry.span ordered.0 up.0 ∙ ap (λ (e : Entry). does_reach at (Some e)) (sym reached.0))
    ∙ covered at (Some entry) entries sorted.0 sorted.1 reached.1 up.1

-- ---- the last entry that does not start after the hour

front_only : (at : Start) (entries : List Entry) (n : ℕ) → AllByRecursion (λ (entry : Entry). starts_before at entry.span.start ≡ true) (drop n entries) → list_any (covers at) (spans_of entries) ≡ list_any (covers at) (spans_of (take n entries))
front_only at [] zero back = refl
front_only at [] (suc n) back = refl
front_only at (entry ∷ entries) zero back = ap (λ b. b || list_any (covers at) (spans_of entries)) (behind-not at entry.span back.0) ∙ front_only at entries zero back.1
front_only at (entry ∷ entries) (suc n) back = ap (λ b. covers at entry.span || b) (front_only at entries n back)

all-taken : (P : Span → Type 0) (entries : List Entry) (n : ℕ) → AllByRecursion P (spans_of entries) → AllByRecursion P (spans_of (take n entries))
all-taken P entries zero all = tt
all-taken P [] (suc n) all = tt
all-taken P (entry ∷ entries) (suc n) all = (all.0, all-taken P entries n all.1)

in_order-taken : (entries : List Entry) (n : ℕ) → AreInOrder (spans_of entries) → AreInOrder (spans_of (take n entries))
in_order-taken entries zero h = tt
in_order-taken [] (suc n) h = tt
in_order-taken (entry ∷ entries) (suc n) h = (all-taken (λ other. starts_before other.start entry.span.start ≡ false) entries n h.0, in_order-taken entries n h.1)

none_before : (spans : List Span) → AllByRecursion (IsOrdered None) spans
none_before [] = tt
none_before (span ∷ spans) = (tt, none_before spans)

pub found : (at : Start) (entries : List Entry) (n : ℕ) → AreAgreed entries → AllByRecursion (λ (entry : Entry). starts_before at entry.span.start ≡ false) (take n entries) → AllByRecursion (λ (entry : Entry). starts_before at entry.span.start ≡ true) (drop n entries) → list_any (covers at) (spans_of entries) ≡ does_reach at (last_or None (take n entries))
found at entries n agreed front back =
    let sorted = agreed.in_order in
    let reached = agreed.reached in
    front_only at entries n back
    ∙ covered at None (take n entries) (none_before (spans_of (take n entries))) (in_order-taken entries n sorted) (reached-take None entries n reached) front

less_one : (n : ℕ) → suc n - 1 ≡ n
less_one n = omega arith

pub last-of : (entries : List Entry) (count : ℕ) (d : Entry) → (count ≡ 0 → ⊥) → count ≤ length entries → Some (slice_index_or entries (count - 1) d) ≡ last_or None (take count entries)
last-of entries zero d h within = absurd (h refl)
last-of entries (suc n) d h within = ap (λ k. Some (slice_index_or entries k d)) (less_one n) ∙ last-taken None entries n d (omega arith)
