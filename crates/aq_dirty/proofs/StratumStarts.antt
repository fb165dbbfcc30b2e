-- The first day of the stratum that holds a day of a quarter, one day after the other.
use Rattle.std.proofs.Common.{◌≡◌, ℕ, zero, suc, ◌+◌, ◌-◌, ◌*◌, ◌/◌, ◌<◌, ◌≤◌, Bool, true, false, cond, ◌||◌, List, ◌∷◌, refl, ap, sym, subst, ◌∙◌, arith, ◌⊎◌, inl, inr}
use Rattle.std.specs.Prelude.{◌==◌, nat_le, nat_lt, fold, filter, Option, Some, None}
use Rattle.std.specs.List.{list_any, range_with_len}
use Rattle.std.specs.Option.{option_map_or}
use Rattle.std.proofs.lemmas.Bool.{eq-eqb, eqb-true, false≢true, le-leb}
use Rattle.std.proofs.lemmas.Bool.Decides.{nat_tests}
use Rattle.aq_base.specs.Calendar.{days_in_quarter, quarter_first, quarter_of}
use Rattle.aq_base.specs.Site.{Site}
use Rattle.aq_base.specs.declared.day.TheConstants.{LAST_DAY}
use Rattle.aq_base.specs.declared.monitor.Pollutant.TheVariants.{Pm10}
use Rattle.aq_base.specs.declared.office.OfficeRecord.{OfficeRecord}
use Rattle.aq_cal.proofs.Within.{quarter_holds}
use Rattle.aq_rules.specs.Lists.{later, latest}
use Rattle.aq_rules.specs.Office.Schedule.{is_scheduled}
use Rattle.aq_rules.specs.Particles.QuarterCounts.{days_of_quarter}
use Rattle.aq_rules.specs.Particles.Strata.{begins, first_day_onto, first_days_after, first_days_among, first_days_by, stratum_by}
use Rattle.aq_dirty.specs.ParticleReach.{begins_stratum, is_in_stratum}
use Rattle.aq_dirty.proofs.Along.{any-same}

or_none : (b : Bool) → (b || false) ≡ b
or_none true = refl
or_none false = refl

turned : (x y : Bool) → (x || y) ≡ (y || x)
turned true true = refl
turned true false = refl
turned false true = refl
turned false false = refl

begun_last : (x l y : Bool) → ((y || l) || x) ≡ (x || (l || y))
begun_last true l true = refl
begun_last true true false = refl
begun_last true false false = refl
begun_last false true true = refl
begun_last false false true = refl
begun_last false true false = refl
begun_last false false false = refl

again_last : (x l : Bool) → (l || x) ≡ (x || (l || x))
again_last true true = refl
again_last true false = refl
again_last false l = refl

module _ (p : ℕ → Bool) (first : ℕ) where
  -- the first day of the stratum that holds the day so many days after the quarter's first
  unfoldable pub start_of : ℕ → ℕ
  start_of zero = first
  start_of (suc k) = cond (begins p (start_of k) (first + suc k)) (first + suc k) (start_of k)

  pub start-by : (k : ℕ) → (first ≤ start_of k) × (start_of k ≤ first + k)
  unfolding start_of
  start-by zero = (omega arith, omega arith)
  start-by (suc k) = by (begins p (start_of k) (first + suc k)) (start-by k)
    where
      by : (b : Bool) → (first ≤ start_of k) × (start_of k ≤ first + k) → (first ≤ cond b (first + suc k) (start_of k)) × (cond b (first + suc k) (start_of k) ≤ first + suc k)
      by true before = (omega arith, omega arith)
      by false before = (before.0, omega (arith, before.1))

  -- ---- it is the latest of the first days up to the day

  abbrev kept : ℕ → Option ℕ → List ℕ → Option ℕ
  kept day so_far firsts = fold (later (λ f. f)) so_far (filter (λ f. nat_le f day) firsts)

  later-start : (s a : ℕ) → s < a → later (λ f. f) (Some s) a ≡ Some a
  later-start s a before = let t : nat_lt a s ≡ false = grind (arith, nat_tests) in ap (λ b. Some (cond b s a)) t

  none-later : (day s t a n : ℕ) → day < a → kept day (Some s) (first_days_after p t (range_with_len a n)) ≡ Some s
  unfolding first_days_after
  none-later day s t a zero before = refl
  none-later day s t a (suc n) before = by (begins p t a) (λ u. none-later day s u (a + 1) n (omega (arith, before)))
    where
      off : nat_le a day ≡ false
      off = grind (arith, nat_tests, before)

      by : (b : Bool) → ((u : ℕ) → kept day (Some s) (first_days_after p u (range_with_len (a + 1) n)) ≡ Some s) → kept day (Some s) (first_day_onto b a (first_days_after p (cond b a t) (range_with_len (a + 1) n))) ≡ Some s
      by true again =
          ap (λ c. fold (later (λ f. f)) (Some s) (cond c (a ∷ filter (λ f. nat_le f day) (first_days_after p a (range_with_len (a + 1) n))) (filter (λ f. nat_le f day) (first_days_after p a (range_with_len (a + 1) n))))) off
          ∙ again a
      by false again = again t

  latest-after : (day k a n : ℕ) → a ≡ first + suc k → first + k ≤ day → day < a + n
      → kept day (Some (start_of k)) (first_days_after p (start_of k) (range_with_len a n)) ≡ Some (start_of (day - first))
  unfolding first_days_after start_of
  latest-after day k a zero at low high =
      let here : k ≡ day - first = omega (arith, at, low, high) in
      ap (λ n. Some (start_of n)) here
  latest-after day k a (suc n) at low high =
      by (nat_le a day) refl (λ within. latest-after day (suc k) (a + 1) n (omega (arith, at)) (omega (arith, at, within)) (omega (arith, high)))
    where
      by : (c : Bool) → nat_le a day ≡ c
          → (a ≤ day → kept day (Some (start_of (suc k))) (first_days_after p (start_of (suc k)) (range_with_len (a + 1) n)) ≡ Some (start_of (day - first)))
          → kept day (Some (start_of k)) (first_days_after p (start_of k) (range_with_len a (suc n))) ≡ Some (start_of (day - first))
      by false off again =
          let before : day < a = grind (arith, nat_tests, off) in
          let here : k ≡ day - first = omega (arith, at, low, before) in
          none-later day (start_of k) (start_of k) a (suc n) before ∙ ap (λ m. Some (start_of m)) here
      by true on again =
          let within : a ≤ day = grind (arith, nat_tests, on) in
          ap (λ m. kept day (Some (start_of k)) (first_day_onto (begins p (start_of k) m) a (first_days_after p (cond (begins p (start_of k) m) a (start_of k)) (range_with_len (a + 1) n)))) at
          ∙ begun within (again within) (begins p (start_of k) (first + suc k)) refl
        where
          begun : a ≤ day → kept day (Some (start_of (suc k))) (first_days_after p (start_of (suc k)) (range_with_len (a + 1) n)) ≡ Some (start_of (day - first)) → (b : Bool) → begins p (start_of k) (first + suc k) ≡ b
              → kept day (Some (start_of k)) (first_day_onto b a (first_days_after p (cond b a (start_of k)) (range_with_len (a + 1) n))) ≡ Some (start_of (day - first))
          begun within rest true is =
              let next : start_of (suc k) ≡ a = ap (λ b. cond b (first + suc k) (start_of k)) is ∙ sym at in
              let before : start_of k < a = omega (arith, at, (start-by k).1) in
              ap (λ c. fold (later (λ f. f)) (Some (start_of k)) (cond c (a ∷ filter (λ f. nat_le f day) (first_days_after p a (range_with_len (a + 1) n))) (filter (λ f. nat_le f day) (first_days_after p a (range_with_len (a + 1) n))))) on
              ∙ ap (λ o. fold (later (λ f. f)) o (filter (λ f. nat_le f day) (first_days_after p a (range_with_len (a + 1) n)))) (later-start (start_of k) a before)
              ∙ ap (λ s. kept day (Some s) (first_days_after p s (range_with_len (a + 1) n))) (sym next)
              ∙ rest
          begun within rest false is =
              let next : start_of (suc k) ≡ start_of k = ap (λ b. cond b (first + suc k) (start_of k)) is in
              ap (λ s. kept day (Some s) (first_days_after p s (range_with_len (a + 1) n))) (sym next)
              ∙ rest

  pub latest-is : (day n : ℕ) → first ≤ day → day < first + n
      → latest (λ f. f) (filter (λ f. nat_le f day) (first_days_among p (range_with_len first n))) ≡ Some (start_of (day - first))
  unfolding start_of
  latest-is day zero low high = absurd (omega (arith, low, high))
  latest-is day (suc n) low high =
      let on : nat_le first day ≡ true = le-leb first day low in
      ap (λ c. fold (later (λ f. f)) None (cond c (first ∷ filter (λ f. nat_le f day) (first_days_after p first (range_with_len (first + 1) n))) (filter (λ f. nat_le f day) (first_days_after p first (range_with_len (first + 1) n))))) on
      ∙ latest-after day 0 (first + 1) n (omega arith) (omega (arith, low)) (omega (arith, high))

  -- ---- starts

  -- the quarter's first day and each scheduled day begin one
  pub start-here : (k : ℕ) → (k ≡ 0) ⊎ (p (first + k) ≡ true) → start_of k ≡ first + k
  unfolding start_of
  start-here zero begun = omega arith
  start-here (suc k) (inl none) = absurd (omega (arith, none))
  start-here (suc k) (inr is) = ap (λ b. cond (b || (first + suc k == start_of k + 6)) (first + suc k) (start_of k)) is

  -- where no day is scheduled behind a start, strata of six days follow it
  pub six-apart : (m j : ℕ) → start_of m ≡ first + m → ((d : ℕ) → first + m < d → d ≤ first + m + j → p d ≡ false) → start_of (m + j) ≡ first + m + 6 * (j / 6)
  unfolding start_of
  six-apart m zero begun none = let all : m + 0 ≡ m = omega arith in ap start_of all ∙ begun ∙ omega arith
  six-apart m (suc j) begun none =
      let all : m + suc j ≡ suc (m + j) = omega arith in
      let before : start_of (m + j) ≡ first + m + 6 * (j / 6) = six-apart m j begun (λ d low high. none d low (omega (arith, high))) in
      ap start_of all
      ∙ ap (λ b. cond (b || (first + suc (m + j) == start_of (m + j) + 6)) (first + suc (m + j)) (start_of (m + j))) (none (first + suc (m + j)) (omega arith) (omega arith))
      ∙ ap (λ s. cond (first + suc (m + j) == s + 6) (first + suc (m + j)) s) before
      ∙ by (first + suc (m + j) == first + m + 6 * (j / 6) + 6) refl
    where
      by : (b : Bool) → (first + suc (m + j) == first + m + 6 * (j / 6) + 6) ≡ b → cond b (first + suc (m + j)) (first + m + 6 * (j / 6)) ≡ first + m + 6 * (suc j / 6)
      by true is = let e : first + suc (m + j) ≡ first + m + 6 * (j / 6) + 6 = grind (arith, nat_tests, is) in omega (arith, e)
      by false is = let e : (first + suc (m + j) ≡ first + m + 6 * (j / 6) + 6) → ⊥ = λ same. (grind (arith, nat_tests, is, same)) in omega (arith, e)

  start-next : (k : ℕ) → start_of (suc k) ≡ cond (begins p (start_of k) (first + suc k)) (first + suc k) (start_of k)
  unfolding start_of
  start-next k = refl

  -- ---- the first days of a quarter are the starts of its days

  firsts-after : (n k a m : ℕ) → a ≡ first + suc k
      → (list_any (λ f. n == f) (first_days_after p (start_of k) (range_with_len a m)) || (n == start_of k)) ≡ ((n == start_of k) || list_any (λ d. n == start_of (d - first)) (range_with_len a m))
  unfolding first_days_after
  firsts-after n k a zero at = sym (or_none (n == start_of k))
  firsts-after n k a (suc m) at =
      let place : suc k ≡ a - first = omega (arith, at) in
      by (begins p (start_of k) a) (start-next k ∙ ap (λ x. cond (begins p (start_of k) x) x (start_of k)) (sym at)) (firsts-after n (suc k) (a + 1) m (omega (arith, at)))
      ∙ ap (λ j. (n == start_of k) || ((n == start_of j) || list_any (λ d. n == start_of (d - first)) (range_with_len (a + 1) m))) place
    where
      by : (b : Bool) → start_of (suc k) ≡ cond b a (start_of k)
          → (list_any (λ f. n == f) (first_days_after p (start_of (suc k)) (range_with_len (a + 1) m)) || (n == start_of (suc k)))
          ≡ ((n == start_of (suc k)) || list_any (λ d. n == start_of (d - first)) (range_with_len (a + 1) m))
          → (list_any (λ f. n == f) (first_day_onto b a (first_days_after p (cond b a (start_of k)) (range_with_len (a + 1) m))) || (n == start_of k))
          ≡ ((n == start_of k) || ((n == start_of (suc k)) || list_any (λ d. n == start_of (d - first)) (range_with_len (a + 1) m)))
      by true next again =
          begun_last (n == start_of k) (list_any (λ f. n == f) (first_days_after p a (range_with_len (a + 1) m))) (n == a)
          ∙ ap (λ s. (n == start_of k) || (list_any (λ f. n == f) (first_days_after p s (range_with_len (a + 1) m)) || (n == s))) (sym next)
          ∙ ap (λ b. (n == start_of k) || b) again
      by false next again =
          again_last (n == start_of k) (list_any (λ f. n == f) (first_days_after p (start_of k) (range_with_len (a + 1) m)))
          ∙ ap (λ s. (n == start_of k) || (list_any (λ f. n == f) (first_days_after p s (range_with_len (a + 1) m)) || (n == s))) (sym next)
          ∙ ap (λ b. (n == start_of k) || b) again

  firsts-among : (n m : ℕ) → list_any (λ f. n == f) (first_days_among p (range_with_len first m)) ≡ list_any (λ d. n == start_of (d - first)) (range_with_len first m)
  unfolding start_of
  firsts-among n zero = refl
  firsts-among n (suc m) =
      let none : 0 ≡ first - first = omega arith in
      turned (n == first) (list_any (λ f. n == f) (first_days_after p first (range_with_len (first + 1) m)))
      ∙ firsts-after n 0 (first + 1) m (omega arith)
      ∙ ap (λ j. (n == start_of j) || list_any (λ d. n == start_of (d - first)) (range_with_len (first + 1) m)) none

-- ---- the stratum of a day

module _ (records : List OfficeRecord) (site : Site) where
  abbrev asked : ℕ → Bool
  asked = is_scheduled records site Pm10

  its_quarter : (day : ℕ) → day ≤ LAST_DAY → (quarter_first (quarter_of day) ≤ day) × (day < quarter_first (quarter_of day) + days_in_quarter (quarter_of day))
  its_quarter day within = (quarter_holds (quarter_of day) day within).0 refl

  by-start : (day : ℕ) → day ≤ LAST_DAY → stratum_by records site day ≡ Some (start_of asked (quarter_first (quarter_of day)) (day - quarter_first (quarter_of day)))
  unfolding days_of_quarter
  by-start day within = let span = its_quarter day within in latest-is asked (quarter_first (quarter_of day)) day (days_in_quarter (quarter_of day)) span.0 span.1

  -- of a day of a quarter whose first day is known
  at-start : (quarter opens day : ℕ) → opens ≡ quarter_first quarter → day ≤ LAST_DAY → quarter_of day ≡ quarter → stratum_by records site day ≡ Some (start_of asked opens (day - opens))
  at-start quarter opens day is within its =
      let first : quarter_first (quarter_of day) ≡ opens = ap (λ q. quarter_first q) its ∙ sym is in
      by-start day within ∙ ap (λ f. Some (start_of asked f (day - f))) first

  pub opens-low : (opens day : ℕ) → opens ≡ quarter_first (quarter_of day) → day ≤ LAST_DAY → opens ≤ day
  opens-low opens day is within = subst (λ f. f ≤ day) (sym is) (its_quarter day within).0

  -- it is found by the latest scheduled day, or the quarter's first
  pub first-found : (opens day start : ℕ) → opens ≡ quarter_first (quarter_of day) → day ≤ LAST_DAY → opens ≤ start → start ≤ day
      → ((d : ℕ) → start < d → d ≤ day → asked d ≡ false) → (start ≤ opens) ⊎ (asked start ≡ true)
      → stratum_by records site day ≡ Some (start + (day - start) / 6 * 6)
  first-found opens day start is within low high none begun =
      let m : ℕ = start - opens in
      let j : ℕ = day - start in
      let at : opens + m ≡ start = omega (arith, low) in
      let all : day - opens ≡ m + j = omega (arith, low, high) in
      let here : start_of asked opens m ≡ opens + m = start-here asked opens m (begins_here begun) in
      let six = six-apart asked opens m j here (λ d from to. none d (omega (arith, from, at)) (omega (arith, to, at, high))) in
      at-start (quarter_of day) opens day is within refl ∙ ap (λ k. Some (start_of asked opens k)) all
      ∙ ap (λ k. Some k) (six ∙ omega (arith, at))
    where
      begins_here : (start ≤ opens) ⊎ (asked start ≡ true) → (start - opens ≡ 0) ⊎ (asked (opens + (start - opens)) ≡ true)
      begins_here (inl before) = inl (omega (arith, before))
      begins_here (inr is_asked) = let back : opens + (start - opens) ≡ start = omega (arith, low) in inr (ap asked back ∙ is_asked)

  -- it is no later than the day
  pub first-low : (day first : ℕ) → day ≤ LAST_DAY → stratum_by records site day ≡ Some first → first ≤ day
  first-low day first within is =
      let opens = quarter_first (quarter_of day) in
      let low = (its_quarter day within).0 in
      let e : Some (start_of asked opens (day - opens)) ≡ Some first = sym (by-start day within) ∙ is in
      let same : start_of asked opens (day - opens) ≡ first = cc in
      let most = (start-by asked opens (day - opens)).1 in
      omega (arith, low, same, most)

  -- from the day before on
  module _ (day start : ℕ) (within : day + 1 ≤ LAST_DAY) (is : stratum_by records site day ≡ Some start) where
    abbrev opens : ℕ
    opens = quarter_first (quarter_of (day + 1))

    span : (opens ≤ day + 1) × (day + 1 < opens + days_in_quarter (quarter_of (day + 1)))
    span = its_quarter (day + 1) within

    here : stratum_by records site (day + 1) ≡ Some (start_of asked opens (day + 1 - opens))
    here = by-start (day + 1) within

    stepped : (k : ℕ) → opens + suc k ≡ day + 1 → start_of asked opens k ≡ start
        → Some (start_of asked opens (suc k)) ≡ Some (cond (asked (day + 1) || (day + 1 == start + 6)) (day + 1) start)
    stepped k at before = ap (λ n. Some n) (start-next asked opens k ∙ (λ i. cond (asked (at i) || (at i == before i + 6)) (at i) (before i)))

    pub next-found : stratum_by records site (day + 1) ≡ Some (cond (begins_stratum records site start (day + 1)) (day + 1) start)
    next-found = by (opens == day + 1) refl
      where
        by : (b : Bool) → (opens == day + 1) ≡ b → stratum_by records site (day + 1) ≡ Some (cond (b || asked (day + 1) || (day + 1 == start + 6)) (day + 1) start)
        by true first =
            let same : opens ≡ day + 1 = eqb-true opens (day + 1) first in
            let none : day + 1 - opens ≡ 0 = omega (arith, same) in
            here ∙ ap (λ k. Some (start_of asked opens k)) none ∙ ap (λ k. Some k) (start-here asked opens 0 (inl refl) ∙ omega (arith, same))
        by false first =
            let apart : (opens ≡ day + 1) → ⊥ = λ same. false≢true (sym first ∙ eq-eqb opens (day + 1) same) in
            let low : opens ≤ day = omega (arith, span.0, apart) in
            let one : quarter_of day ≡ quarter_of (day + 1) = (quarter_holds (quarter_of (day + 1)) day (omega (arith, within))).1 (low, omega (arith, span.1)) in
            let e : Some (start_of asked opens (day - opens)) ≡ Some start = sym (at-start (quarter_of (day + 1)) opens day refl (omega (arith, within)) one) ∙ is in
            let before : start_of asked opens (day - opens) ≡ start = cc in
            let place : day + 1 - opens ≡ suc (day - opens) = omega (arith, low) in
            let at : opens + suc (day - opens) ≡ day + 1 = omega (arith, low) in
            here ∙ ap (λ k. Some (start_of asked opens k)) place ∙ stepped (day - opens) at before

  -- ---- the first days of a quarter are those of the strata that hold its days

  pub firsts-held : (quarter n : ℕ) → quarter_first quarter + days_in_quarter quarter ≤ LAST_DAY + 1
      → list_any (λ f. n == f) (first_days_by records site quarter) ≡ list_any (is_in_stratum records site n) (range_with_len (quarter_first quarter) (days_in_quarter quarter))
  unfolding days_of_quarter
  firsts-held quarter n end =
      firsts-among asked (quarter_first quarter) n (days_in_quarter quarter)
      ∙ any-same (λ d. n == start_of asked (quarter_first quarter) (d - quarter_first quarter)) (is_in_stratum records site n) (quarter_first quarter) (days_in_quarter quarter)
      (λ d low high.
      let within : d ≤ LAST_DAY = omega (arith, high, end) in
      let its = (quarter_holds quarter d within).1 (low, high) in
      sym (ap (λ (o : Option ℕ). option_map_or (λ f. n == f) o false) (at-start quarter (quarter_first quarter) d refl within its)))
