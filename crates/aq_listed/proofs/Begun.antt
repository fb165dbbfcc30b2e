-- An event covers a mark exactly if more events begin up to it than end before it.
use Rattle.std.proofs.Common.{◌≡◌, ◌≤◌, ◌<◌, ◌+◌, ℕ, Bool, true, false, ◌&&◌, List, [], ◌∷◌, ◌++◌, cond, count_by, filter, refl, ap, sym, ◌∙◌, subst, arith}
use Rattle.std.specs.Prelude.{◌||◌, flat_map, nat_le, nat_lt}
use Rattle.std.specs.List.{list_any}
use Rattle.std.specs.List.Sorted.{IsPermutation}
use Rattle.std.proofs.lemmas.Bool.Decides.{nat_tests}
use Rattle.std.specs.Ordering.{is_eq, is_le, is_lt, nat_cmp, ordering_then}
use Rattle.std.specs.declared.cmp.Ordering.{Ordering}
use Rattle.std.specs.declared.cmp.Ordering.TheVariants.{Less, Equal, Greater}
use Rattle.aq_base.specs.Quals.{is_same_code}
use Rattle.aq_base.specs.declared.monitor.Pollutant.{Pollutant}
use Rattle.aq_base.specs.declared.monitor.Pollutant.TheVariants.{Ozone, Pm25, Pm10}
use Rattle.aq_base.specs.contracts.monitor.PollutantOrd.TheImpl as pollutant_derived
use Rattle.aq_rules.specs.Office.Monitors.{is_same_pollutant}
use Rattle.aq_rules.specs.Listed.Events.{StandingEvent}
use Rattle.aq_listed.specs.EventSpans.{end_in, is_begun, start_in}
use Rattle.aq_listed.specs.FlagWords.{covers_mark, is_covered}
use Rattle.aq_listed.specs.Marks.{mark_cmp}
use Rattle.aq_listed.specs.declared.marks.Mark.{Mark}
use Rattle.aq_listed.proofs.Counted.{count-cons, count-permuted}
use Rattle.aq_listed.proofs.Places.{same-codes, same-pollutants}

turned-pollutants : (p q : Pollutant) → is_same_pollutant p q ≡ is_same_pollutant q p
turned-pollutants Ozone Ozone = refl
turned-pollutants Ozone Pm25 = refl
turned-pollutants Ozone Pm10 = refl
turned-pollutants Pm25 Ozone = refl
turned-pollutants Pm25 Pm25 = refl
turned-pollutants Pm25 Pm10 = refl
turned-pollutants Pm10 Ozone = refl
turned-pollutants Pm10 Pm25 = refl
turned-pollutants Pm10 Pm10 = refl

-- one event, by the orders of the pollutant and the code
one-event : (p c : Ordering) (hour first last : ℕ) → first ≤ last
    → cond (is_le (ordering_then p (ordering_then c (nat_cmp first hour)))) 1 0
    ≡ cond (is_lt (ordering_then p (ordering_then c (nat_cmp last hour)))) 1 0 + cond (is_eq c && (is_eq p && nat_le first hour && nat_le hour last)) 1 0
one-event Less Less hour first last upward = refl
one-event Less Equal hour first last upward = refl
one-event Less Greater hour first last upward = refl
one-event Greater Less hour first last upward = refl
one-event Greater Equal hour first last upward = refl
one-event Greater Greater hour first last upward = refl
one-event Equal Less hour first last upward = refl
one-event Equal Greater hour first last upward = refl
one-event Equal Equal hour first last upward = grind (arith, nat_tests)

module _ (mark : Mark) where
  proper : (event : StandingEvent) → event.first ≤ event.last
      → cond (is_le (mark_cmp (record { pollutant = event.pollutant; code = event.code; hour = event.first }) mark)) 1 0
      ≡ cond (is_lt (mark_cmp (record { pollutant = event.pollutant; code = event.code; hour = event.last }) mark)) 1 0 + cond (covers_mark mark event) 1 0
  proper event upward =
      let rest : Bool → Bool → ℕ = λ c p. cond (is_lt (mark_cmp (record { pollutant = event.pollutant; code = event.code; hour = event.last }) mark)) 1 0 + cond (c && (p && nat_le event.first mark.hour && nat_le mark.hour event.last)) 1 0 in
      one-event ((pollutant_derived.ghosts).cmp event.pollutant mark.pollutant) (ordering_then (nat_cmp event.code.first mark.code.first) (nat_cmp event.code.second mark.code.second)) mark.hour event.first event.last upward
      ∙ ap (λ c. rest c (is_eq ((pollutant_derived.ghosts).cmp event.pollutant mark.pollutant))) (same-codes event.code mark.code)
      ∙ ap (rest (is_same_code event.code mark.code)) (same-pollutants event.pollutant mark.pollutant ∙ turned-pollutants event.pollutant mark.pollutant)

  improper : (c p : Bool) (first last hour : ℕ) → last < first → (c && (p && nat_le first hour && nat_le hour last)) ≡ false
  improper false p first last hour downward = refl
  improper true false first last hour downward = refl
  improper true true first last hour downward = grind (arith, nat_tests)

  counted : (events : List StandingEvent)
      → count_by (λ (other : Mark). is_le (mark_cmp other mark)) (flat_map start_in events)
      ≡ count_by (λ (other : Mark). is_lt (mark_cmp other mark)) (flat_map end_in events) + count_by (covers_mark mark) events
  counted [] = refl
  counted (event ∷ events) = by (nat_le event.first event.last) refl (counted events)
    where
      starts : Bool → List Mark
      starts b = cond b (record { pollutant = event.pollutant; code = event.code; hour = event.first } ∷ []) [] ++ flat_map start_in events

      ends : Bool → List Mark
      ends b = cond b (record { pollutant = event.pollutant; code = event.code; hour = event.last } ∷ []) [] ++ flat_map end_in events

      more : (s e n one sum : ℕ) (first last : ℕ) → first ≡ last + one → s ≡ e + n → sum ≡ one + n → first + s ≡ (last + e) + sum
      more s e n one sum first last is before all = omega arith

      as_many : (s e n sum : ℕ) → s ≡ e + n → sum ≡ 0 + n → s ≡ e + sum
      as_many s e n sum before all = omega arith

      by : (b : Bool) → nat_le event.first event.last ≡ b
          → count_by (λ (other : Mark). is_le (mark_cmp other mark)) (flat_map start_in events)
          ≡ count_by (λ (other : Mark). is_lt (mark_cmp other mark)) (flat_map end_in events) + count_by (covers_mark mark) events
          → count_by (λ (other : Mark). is_le (mark_cmp other mark)) (flat_map start_in (event ∷ events))
          ≡ count_by (λ (other : Mark). is_lt (mark_cmp other mark)) (flat_map end_in (event ∷ events)) + count_by (covers_mark mark) (event ∷ events)
      by true order before =
          let upward : event.first ≤ event.last = grind (arith, nat_tests) in
          ap (λ b. count_by (λ (other : Mark). is_le (mark_cmp other mark)) (starts b)) order
          ∙ count-cons (λ (other : Mark). is_le (mark_cmp other mark)) (record { pollutant = event.pollutant; code = event.code; hour = event.first }) (flat_map start_in events)
          ∙ more _ _ _ _ _ _ _ (proper event upward) before (count-cons (covers_mark mark) event events)
          ∙ ap (λ n. n + count_by (covers_mark mark) (event ∷ events)) (sym (count-cons (λ (other : Mark). is_lt (mark_cmp other mark)) (record { pollutant = event.pollutant; code = event.code; hour = event.last }) (flat_map end_in events)))
          ∙ ap (λ b. count_by (λ (other : Mark). is_lt (mark_cmp other mark)) (ends b) + count_by (covers_mark mark) (event ∷ events)) (sym order)
      by false order before =
          let downward : event.last < event.first = grind (arith, nat_tests) in
          let none = improper (is_same_code event.code mark.code) (is_same_pollutant mark.pollutant event.pollutant) event.first event.last mark.hour downward in
          ap (λ b. count_by (λ (other : Mark). is_le (mark_cmp other mark)) (starts b)) order
          ∙ as_many _ _ _ _ before (count-cons (covers_mark mark) event events ∙ ap (λ b. cond b 1 0 + count_by (covers_mark mark) events) none)
          ∙ ap (λ b. count_by (λ (other : Mark). is_lt (mark_cmp other mark)) (ends b) + count_by (covers_mark mark) (event ∷ events)) (sym order)

any-counted : {X : Type 0} (p : X → Bool) (xs : List X) → nat_lt 0 (count_by p xs) ≡ list_any p xs
any-counted p [] = refl
any-counted p (x ∷ xs) = ap (nat_lt 0) (count-cons p x xs) ∙ by (p x) (count_by p xs) (any-counted p xs)
  where
    by : (b : Bool) (n : ℕ) → nat_lt 0 n ≡ list_any p xs → nat_lt 0 (cond b 1 0 + n) ≡ (b || list_any p xs)
    by true n rest = positive n
      where
        positive : (n : ℕ) → nat_lt 0 (1 + n) ≡ true
        positive n = grind (arith, nat_tests)
    by false n rest = ap (nat_lt 0) (nothing n) ∙ rest
      where
        nothing : (n : ℕ) → 0 + n ≡ n
        nothing n = omega arith

above : (e n : ℕ) → nat_lt e (e + n) ≡ nat_lt 0 n
above e n = grind (arith, nat_tests)

begun-is : (events : List StandingEvent) (starts ends : List Mark) → IsPermutation (flat_map start_in events) starts → IsPermutation (flat_map end_in events) ends
    → (mark : Mark) → is_begun starts ends mark ≡ is_covered events mark
begun-is events starts ends from to mark =
    let ended = count-permuted (λ (other : Mark). is_lt (mark_cmp other mark)) (flat_map end_in events) ends to in
    let begun = count-permuted (λ (other : Mark). is_le (mark_cmp other mark)) (flat_map start_in events) starts from in
    ap (λ n. nat_lt n (count_by (λ (other : Mark). is_le (mark_cmp other mark)) starts)) ended
    ∙ ap (nat_lt (count_by (λ (other : Mark). is_lt (mark_cmp other mark)) (flat_map end_in events))) (begun ∙ counted mark events)
    ∙ above (count_by (λ (other : Mark). is_lt (mark_cmp other mark)) (flat_map end_in events)) (count_by (covers_mark mark) events)
    ∙ any-counted (covers_mark mark) events

filter-same : {X : Type 0} (p q : X → Bool) → ((x : X) → p x ≡ q x) → (xs : List X) → filter p xs ≡ filter q xs
filter-same p q each [] = refl
filter-same p q each (x ∷ xs) = λ i. cond (each x i) (x ∷ filter-same p q each xs i) (filter-same p q each xs i)

pub begun-covered : (events : List StandingEvent) (firsts lasts starts ends starts_at ends_at marks covered : List Mark)
    → firsts ≡ flat_map start_in events → lasts ≡ flat_map end_in events → IsPermutation firsts starts → IsPermutation lasts ends → starts_at ≡ starts → ends_at ≡ ends
    → covered ≡ filter (is_begun starts_at ends_at) marks → covered ≡ filter (is_covered events) marks
begun-covered events firsts lasts starts ends starts_at ends_at marks covered first_is last_is from to starts_same ends_same is =
    let begins = subst (λ (ms : List Mark). IsPermutation ms starts) first_is from in
    let stops = subst (λ (ms : List Mark). IsPermutation ms ends) last_is to in
    is
    ∙ ap (λ (ms : List Mark). filter (is_begun ms ends_at) marks) starts_same
    ∙ ap (λ (ms : List Mark). filter (is_begun starts ms) marks) ends_same
    ∙ filter-same (is_begun starts ends) (is_covered events) (begun-is events starts ends begins stops) marks
