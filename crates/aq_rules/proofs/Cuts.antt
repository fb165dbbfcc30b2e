-- The strata of a quarter: its days in order, six at most in each, and no scheduled day after the first of one.
use Rattle.std.proofs.Common.{◌≡◌, ℕ, zero, suc, ◌+◌, ◌-◌, ◌<◌, ◌≤◌, Bool, true, false, not, ◌||◌, cond, List, [], ◌∷◌, ◌++◌, length, drop, refl, ap, ◌∙◌, arith, append-nil}
use Rattle.std.specs.Prelude.{⊤, ◌==◌, All}
use Rattle.std.specs.List.{flat_map, range_with_len, list_all}
use Rattle.std.proofs.lemmas.List.Elements.{All-cons, All-nil}
use Rattle.std.proofs.lemmas.List.FromFn.{length-range_with_len}
use Rattle.std.proofs.lemmas.Bool.Decides.{nat_tests}
use Rattle.aq_base.specs.Calendar.{quarter_first, days_in_quarter}
use Rattle.aq_base.specs.Site.{Site}
use Rattle.aq_base.specs.declared.monitor.Pollutant.TheVariants.{Pm10}
use Rattle.aq_rules.specs.Office.Office.{Office}
use Rattle.aq_rules.specs.Office.Schedule.{is_scheduled}
use Rattle.aq_rules.specs.Particles.QuarterCounts.{days_of_quarter}
use Rattle.aq_rules.specs.Particles.Strata.{begins, first_day_onto, first_days_after, first_days_among, first_days, strata_from, strata_of}

-- ---- days that follow each other

range-append : (a n m : ℕ) → range_with_len a n ++ range_with_len (a + n) m ≡ range_with_len a (n + m)
range-append a zero m =
    let first : a + 0 ≡ a = omega arith in
    let number : m ≡ 0 + m = omega arith in
    λ i. range_with_len (first i) (number i)
range-append a (suc n) m =
    let first : a + suc n ≡ (a + 1) + n = omega arith in
    let number : suc (n + m) ≡ suc n + m = omega arith in
    ap (λ k. a ∷ (range_with_len (a + 1) n ++ range_with_len k m)) first ∙ ap (λ l. a ∷ l) (range-append (a + 1) n m)
    ∙ ap (range_with_len a) number

days-joined : (a b c : ℕ) → a ≤ b → b ≤ c → range_with_len a (b - a) ++ range_with_len b (c - b) ≡ range_with_len a (c - a)
days-joined a b c low high =
    let middle : b ≡ a + (b - a) = omega arith in
    let whole : (b - a) + (c - b) ≡ c - a = omega arith in
    ap (λ k. range_with_len a (b - a) ++ range_with_len k (c - b)) middle ∙ range-append a (b - a) (c - b) ∙ ap (range_with_len a) whole

days-behind : (a b : ℕ) → a < b → drop 1 (range_with_len a (b - a)) ≡ range_with_len (a + 1) (b - (a + 1))
days-behind a b low = let h : b - a ≡ suc (b - (a + 1)) = omega arith in ap (λ n. drop 1 (range_with_len a n)) h

or_left : (a c : Bool) → (a || c) ≡ false → a ≡ false
or_left true c h = cc
or_left false c h = refl

or_right : (a c : Bool) → (a || c) ≡ false → c ≡ false
or_right true c h = cc
or_right false c h = h

-- a day that begins no stratum is not scheduled, and not six days after the start
module _ (f : ℕ → Bool) where
  not_scheduled : (start day : ℕ) → begins f start day ≡ false → f day ≡ false
  not_scheduled start day e = or_left (f day) (day == start + 6) e

  not_six_on : (start day : ℕ) → begins f start day ≡ false → day ≤ start + 6 → day < start + 6
  not_six_on start day e high =
      let last : (day == start + 6) ≡ false = or_right (f day) (day == start + 6) e in
      grind (arith, nat_tests)

  -- ---- all days, in order

  abbrev joined : List (List ℕ) → List ℕ
  joined strata = flat_map (λ days. days) strata

  -- the strata from the one that began at `start`, if the days from `day` on are still to be cut
  abbrev rest : ℕ → ℕ → ℕ → ℕ → List (List ℕ)
  rest end start day n = strata_from end (start ∷ first_days_after f start (range_with_len day n))

  abbrev rest_by : Bool → ℕ → ℕ → ℕ → ℕ → List (List ℕ)
  rest_by b end start day n = strata_from end (start ∷ first_day_onto b day (first_days_after f (cond b day start) (range_with_len (day + 1) n)))

  joined-step : (end n start day : ℕ) (b : Bool) → start ≤ day → day ≤ end
      → ((s : ℕ) → s ≤ day + 1 → joined (rest end s (day + 1) n) ≡ range_with_len s (end - s))
      → joined (rest_by b end start day n) ≡ range_with_len start (end - start)
  joined-step end n start day true low high further =
      ap (λ l. range_with_len start (day - start) ++ l) (further day (omega arith)) ∙ days-joined start day end low high
  joined-step end n start day false low high further = further start (omega (arith, low))

  joined-rest : (end n start day : ℕ) → start ≤ day → day + n ≡ end → joined (rest end start day n) ≡ range_with_len start (end - start)
  unfolding first_days_after
  joined-rest end zero start day low is = append-nil (range_with_len start (end - start))
  joined-rest end (suc n) start day low is =
      joined-step end n start day (begins f start day) low (omega (arith, is)) (λ s high. joined-rest end n s (day + 1) high (omega (arith, is)))

  -- ---- six at most

  abbrev AtMostSix : List (List ℕ) → Type 0
  AtMostSix [] = ⊤
  AtMostSix (stratum ∷ strata) = (length stratum ≤ 6) × AtMostSix strata

  few_days : (a b : ℕ) → b ≤ a + 6 → length (range_with_len a (b - a)) ≤ 6
  few_days a b high = omega (arith, length-range_with_len a (b - a))

  six-step : (end n start day : ℕ) (b : Bool) → begins f start day ≡ b → start < day → day ≤ start + 6
      → ((s : ℕ) → s < day + 1 → day + 1 ≤ s + 6 → AtMostSix (rest end s (day + 1) n)) → AtMostSix (rest_by b end start day n)
  six-step end n start day true e low high further = (few_days start day high, further day (omega arith) (omega arith))
  six-step end n start day false e low high further =
      let within : day < start + 6 = not_six_on start day e high in
      further start (omega (arith, low)) (omega (arith, within))

  six-rest : (end n start day : ℕ) → start < day → day ≤ start + 6 → day + n ≡ end → AtMostSix (rest end start day n)
  unfolding first_days_after
  six-rest end zero start day low high is = (few_days start end (omega (arith, is, high)), tt)
  six-rest end (suc n) start day low high is =
      six-step end n start day (begins f start day) refl low high (λ s from to. six-rest end n s (day + 1) from to (omega (arith, is)))

  -- ---- a scheduled day comes first

  abbrev none_scheduled : List ℕ → Bool
  none_scheduled days = list_all (λ day. not (f day)) days

  abbrev FirstAlone : List (List ℕ) → Type 0
  FirstAlone [] = ⊤
  FirstAlone (stratum ∷ strata) = (none_scheduled (drop 1 stratum) ≡ true) × FirstAlone strata

  -- none of the days between is scheduled
  abbrev NoneBetween : ℕ → ℕ → Type 0
  NoneBetween start day = (d : ℕ) → start < d → d < day → f d ≡ false

  none-among : (a n : ℕ) → ((d : ℕ) → a ≤ d → d < a + n → f d ≡ false) → none_scheduled (range_with_len a n) ≡ true
  none-among a zero none = refl
  none-among a (suc n) none =
      rw (none a (omega arith) (omega arith)) (none-among (a + 1) n (λ d low high. none d (omega (arith, low)) (omega (arith, high))))

  first-alone : (a b : ℕ) → a < b → NoneBetween a b → none_scheduled (drop 1 (range_with_len a (b - a))) ≡ true
  first-alone a b low none =
      ap none_scheduled (days-behind a b low)
      ∙ none-among (a + 1) (b - (a + 1)) (λ d from to. none d (omega (arith, from)) (omega (arith, to, low)))

  one_more : (start day : ℕ) → NoneBetween start day → f day ≡ false → NoneBetween start (day + 1)
  one_more start day none here d low high = by_test (d == day) refl
    where
      by_test : (b : Bool) → (d == day) ≡ b → f d ≡ false
      by_test true e = let is : d ≡ day = grind (arith, nat_tests) in rw is here
      by_test false e = let before : d < day = grind (arith, nat_tests) in none d low before

  alone-step : (end n start day : ℕ) (b : Bool) → begins f start day ≡ b → start < day → NoneBetween start day
      → ((s : ℕ) → s < day + 1 → NoneBetween s (day + 1) → FirstAlone (rest end s (day + 1) n)) → FirstAlone (rest_by b end start day n)
  alone-step end n start day true e low none further =
      (first-alone start day low none, further day (omega arith) (λ d from to. absurd (omega (arith, from, to))))
  alone-step end n start day false e low none further =
      further start (omega (arith, low)) (one_more start day none (not_scheduled start day e))

  alone-rest : (end n start day : ℕ) → start < day → NoneBetween start day → day + n ≡ end → FirstAlone (rest end start day n)
  unfolding first_days_after
  alone-rest end zero start day low none is =
      (first-alone start end (omega (arith, is, low)) (λ d from to. none d from (omega (arith, to, is))), tt)
  alone-rest end (suc n) start day low none is =
      alone-step end n start day (begins f start day) refl low none (λ s from between. alone-rest end n s (day + 1) from between (omega (arith, is)))

  -- ---- the days of a quarter

  abbrev cut : ℕ → ℕ → List (List ℕ)
  cut first n = strata_from (first + n) (first_days_among f (range_with_len first n))

  cut-joined : (first n : ℕ) → joined (cut first n) ≡ range_with_len first n
  cut-joined first zero = refl
  cut-joined first (suc n) =
      let whole : (first + suc n) - first ≡ suc n = omega arith in
      joined-rest (first + suc n) n first (first + 1) (omega arith) (omega arith) ∙ ap (range_with_len first) whole

  six-all : (strata : List (List ℕ)) → AtMostSix strata → All (λ days. length days ≤ 6) strata
  six-all [] six = All-nil (λ days. length days ≤ 6)
  six-all (stratum ∷ strata) six = All-cons (λ days. length days ≤ 6) stratum strata six.0 (six-all strata six.1)

  cut-six : (first n : ℕ) → All (λ days. length days ≤ 6) (cut first n)
  cut-six first zero = All-nil (λ days. length days ≤ 6)
  cut-six first (suc n) =
      six-all (cut first (suc n)) (six-rest (first + suc n) n first (first + 1) (omega arith) (omega arith) (omega arith))

  alone-all : (strata : List (List ℕ)) → FirstAlone strata → All (λ days. none_scheduled (drop 1 days) ≡ true) strata
  alone-all [] alone = All-nil (λ days. none_scheduled (drop 1 days) ≡ true)
  alone-all (stratum ∷ strata) alone = All-cons (λ days. none_scheduled (drop 1 days) ≡ true) stratum strata alone.0 (alone-all strata alone.1)

  cut-alone : (first n : ℕ) → All (λ days. none_scheduled (drop 1 days) ≡ true) (cut first n)
  cut-alone first zero = All-nil (λ days. none_scheduled (drop 1 days) ≡ true)
  cut-alone first (suc n) =
      alone-all (cut first (suc n))
      (alone-rest (first + suc n) n first (first + 1) (omega arith) (λ d from to. absurd (omega (arith, from, to))) (omega arith))

pub strata-joined : (office : Office) (site : Site) (quarter : ℕ) → flat_map (λ days. days) (strata_of office site quarter) ≡ days_of_quarter quarter
unfolding strata_of first_days days_of_quarter
strata-joined office site quarter = cut-joined (is_scheduled office.records site Pm10) (quarter_first quarter) (days_in_quarter quarter)

pub strata-six : (office : Office) (site : Site) (quarter : ℕ) → All (λ days. length days ≤ 6) (strata_of office site quarter)
unfolding strata_of first_days days_of_quarter
strata-six office site quarter = cut-six (is_scheduled office.records site Pm10) (quarter_first quarter) (days_in_quarter quarter)

pub strata-alone : (office : Office) (site : Site) (quarter : ℕ)
    → All (λ days. list_all (λ day. not (is_scheduled office.records site Pm10 day)) (drop 1 days) ≡ true) (strata_of office site quarter)
unfolding strata_of first_days days_of_quarter
strata-alone office site quarter = cut-alone (is_scheduled office.records site Pm10) (quarter_first quarter) (days_in_quarter quarter)
