-- The same of PM2.5: the quarters and years of a pair of which the joined site has no days, and to which it is joined only after the year, are those of the site.
use Rattle.std.proofs.Common.{◌≡◌, ℕ, ◌+◌, ◌-◌, ◌*◌, ◌%◌, ◌<◌, ◌≤◌, Bool, true, false, cond, not, ◌&&◌, ◌||◌, List, [], ◌∷◌, ◌++◌, refl, sym, ap, ◌∙◌, arith}
use Rattle.std.proofs.lemmas.Bool.{lt-ltb, leb-true}
use Rattle.std.proofs.lemmas.List.{append-nil}
use Rattle.std.proofs.lemmas.List.Sums.{sum_by-cons}
use Rattle.std.specs.List.{filter, filter_map, list_any, range_with_len}
use Rattle.std.specs.Prelude.{None, is_some, nat_lt, nat_le, ◌==◌, count_by, option_and_then}
use Rattle.aq_base.specs.Calendar.{quarter_first, days_in_quarter, quarter_number, quarter_year}
use Rattle.aq_base.specs.Site.{Site}
use Rattle.aq_base.specs.declared.day.TheConstants.{FIRST_YEAR}
use Rattle.aq_base.specs.declared.monitor.Pollutant.TheVariants.{Pm25}
use Rattle.aq_rules.specs.Office.Office.{Office, IsOffice}
use Rattle.aq_rules.specs.Office.Schedule.{is_scheduled}
use Rattle.aq_rules.specs.Particles.ParticleDay.{site_day, net_day, unless_excluded}
use Rattle.aq_rules.specs.Particles.QuarterCounts.{Makeup, days_of_quarter, scheduled_days, is_sampled, is_kept, makeup_by, in_time_by, is_in_time, gives_credit, credits, quarter_counts, quarter_values, pm25_quarter, pm25_year}
use Rattle.aq_rules.specs.Combined.Pair.{Pair, pair_day, is_pair_scheduled, is_pair_sampled, pair_net_day, would_give_credit, makeups_after, credits_before, has_makeup_day, pair_credits, pair_counts, pair_quarter, pair_pm25_year}
use Rattle.aq_rules.proofs.Days.{twelve_months}
use Rattle.aq_rules.proofs.Elements.{Every, filter-none}
use Rattle.aq_rules.proofs.KeyOrder.{months_in_order}
use Rattle.aq_rules.proofs.Ranges.{range-agree}
use Rattle.aq_rules.proofs.PairAlone.{either, filter_map-agree, year_end}
use Rattle.aq_rules.proofs.Pm25Counts.{InQuarter, makeups-in_quarter}
use Rattle.aq_rules.proofs.Quarters.{first-is, days-are, three_months, quarter-holds}

-- ---- lists

count-agree : {X : Type 0} (f g : X → Bool) → ((x : X) → f x ≡ g x) → (xs : List X) → count_by f xs ≡ count_by g xs
count-agree f g same [] = refl
count-agree f g same (x ∷ xs) =
    let rest : count_by f xs ≡ count_by g xs = count-agree f g same xs in
    let here : f x ≡ g x = same x in
    sum_by-cons (λ y. cond (f y) 1 0) x xs ∙ (λ i. cond (here i) 1 0 + rest i) ∙ sym (sum_by-cons (λ y. cond (g y) 1 0) x xs)

filter-range : (f g : ℕ → Bool) (a n : ℕ) → ((k : ℕ) → a ≤ k → k < a + n → f k ≡ g k) → filter f (range_with_len a n) ≡ filter g (range_with_len a n)
filter-range f g a n same = range-agree (λ (h : ℕ → Bool) ks. filter h ks) (λ b k rest. cond b (k ∷ rest) rest) (λ h k ks. refl) (λ f g. refl) f g a n same

any-range : (f g : ℕ → Bool) (a n : ℕ) → ((k : ℕ) → a ≤ k → k < a + n → f k ≡ g k) → list_any f (range_with_len a n) ≡ list_any g (range_with_len a n)
any-range f g a n same = range-agree (λ (h : ℕ → Bool) ks. list_any h ks) (λ b k rest. b || rest) (λ h k ks. refl) (λ f g. refl) f g a n same

-- what all pass takes nothing away
filter-both : {X : Type 0} (P : X → Type 0) (all f g : X → Bool) → ((x : X) → P x → all x ≡ true) → ((x : X) → P x → f x ≡ g x)
    → (xs : List X) → Every P xs → filter f (filter all xs) ≡ filter g xs
filter-both P all f g passes same [] every = refl
filter-both {X = X} P all f g passes same (x ∷ xs) every =
    let rest : filter f (filter all xs) ≡ filter g xs = filter-both P all f g passes same xs every.1 in
    let pass : all x ≡ true = passes x every.0 in
    let here : f x ≡ g x = same x every.0 in
    ap (λ b. filter f (cond b (x ∷ filter all xs) (filter all xs))) pass ∙ (λ i. cond (here i) (x ∷ rest i) (rest i))

not_below : (a b : ℕ) → a < b → nat_le b a ≡ false
not_below a b less = by_test (nat_le b a) refl
  where
    by_test : (t : Bool) → nat_le b a ≡ t → t ≡ false
    by_test true e = absurd (omega (arith, less, leb-true b a e))
    by_test false e = refl

-- ---- a quarter before the joined site is in force

module _ (office : Office) (pair : Pair) (valid : IsOffice office) (no_day : (day : ℕ) → site_day office pair.joined Pm25 day ≡ None) where
  pm-day-alone : (day : ℕ) → pair_day office pair day ≡ site_day office pair.site Pm25 day
  unfolding pair_day
  pm-day-alone day = either (nat_lt day pair.from) (site_day office pair.site Pm25 day) (site_day office pair.joined Pm25 day) (no_day day)

  sampled-alone : (day : ℕ) → is_pair_sampled office pair day ≡ is_sampled office pair.site Pm25 day
  sampled-alone day = ap is_some (pm-day-alone day)

  net-alone : (day : ℕ) → pair_net_day office pair day ≡ net_day office pair.site Pm25 day
  net-alone day = ap (option_and_then unless_excluded) (pm-day-alone day)

  kept-alone : (day : ℕ) → is_some (pair_net_day office pair day) ≡ is_kept office pair.site Pm25 day
  kept-alone day = ap is_some (net-alone day)

  scheduled-alone : (day : ℕ) → day < pair.from → is_pair_scheduled office pair day ≡ is_scheduled office.records pair.site Pm25 day
  scheduled-alone day before =
      let own : nat_lt day pair.from ≡ true = lt-ltb day pair.from before in
      rw own refl

  abbrev IsBefore : Makeup → Type 0
  IsBefore m = (m.missed < pair.from) × (m.makeup < pair.from)

  in_time-alone : (m : Makeup) → IsBefore m → in_time_by (is_pair_scheduled office pair) m ≡ is_in_time office pair.site m
  in_time-alone m before =
      let missed = before.0 in
      let makeup = before.1 in
      let days = any-range (is_pair_scheduled office pair) (is_scheduled office.records pair.site Pm25) (m.missed + 1) (m.makeup - m.missed)
      (λ k low high. scheduled-alone k (omega (arith, missed, makeup, low, high)))
      in
      λ i. not (days i) || (m.makeup == m.missed + 7)

  credit-alone : (m : Makeup) → IsBefore m → would_give_credit office pair m ≡ gives_credit office pair.site m
  credit-alone m before =
      let a = scheduled-alone m.missed before.0 in
      let b = sampled-alone m.missed in
      let c = scheduled-alone m.makeup before.1 in
      let d = sampled-alone m.makeup in
      let e = in_time-alone m before in
      λ i. a i && not (b i) && not (c i) && d i && e i

  module _ (quarter : ℕ) (before : quarter_first quarter + days_in_quarter quarter ≤ pair.from) where
    within : (m : Makeup) → InQuarter quarter m → IsBefore m
    within m is =
        let missed = quarter-holds quarter m.missed is.0 is.1 in
        let makeup = quarter-holds quarter m.makeup is.2 is.3 in
        (omega (arith, before, missed.1), omega (arith, before, makeup.1))

    every-within : (site : Site) → Every (InQuarter quarter) (filter_map (makeup_by site quarter) office.records)
    every-within site = makeups-in_quarter site quarter office office.records valid.records_fit

    credits_before-alone : credits_before office pair quarter ≡ credits office pair.site quarter
    unfolding credits
    credits_before-alone =
        filter-both (InQuarter quarter) (λ (m : Makeup). nat_lt m.missed pair.from) (would_give_credit office pair) (gives_credit office pair.site)
        (λ m is. lt-ltb m.missed pair.from (within m is).0) (λ m is. credit-alone m (within m is))
        (filter_map (makeup_by pair.site quarter) office.records) (every-within pair.site)

    none_after : makeups_after office pair quarter ≡ []
    none_after =
        filter-none (InQuarter quarter) (λ (m : Makeup). nat_le pair.from m.missed) (λ m is. not_below m.missed pair.from (within m is).0)
        (filter_map (makeup_by pair.joined quarter) office.records) (every-within pair.joined)

    credits-alone : pair_credits office pair quarter ≡ credits office pair.site quarter
    unfolding pair_credits
    credits-alone =
        ap
        (λ (ms : List Makeup). credits_before office pair quarter ++ filter (λ (m : Makeup). would_give_credit office pair m && not (has_makeup_day (credits_before office pair quarter) m.makeup)) ms)
        none_after
        ∙ append-nil (credits_before office pair quarter) ∙ credits_before-alone

    days-alone : filter (is_pair_scheduled office pair) (days_of_quarter quarter) ≡ scheduled_days office pair.site Pm25 quarter
    unfolding days_of_quarter
    days-alone =
        filter-range (is_pair_scheduled office pair) (is_scheduled office.records pair.site Pm25) (quarter_first quarter) (days_in_quarter quarter)
        (λ k low high. scheduled-alone k (omega (arith, before, high)))

    counts-alone : pair_counts office pair quarter ≡ quarter_counts office pair.site quarter
    unfolding pair_counts quarter_counts
    counts-alone =
        let days = days-alone in
        let made_up = credits-alone in
        let D = scheduled_days office pair.site Pm25 quarter in
        let C = credits office pair.site quarter in
        let sampled = count-agree (is_pair_sampled office pair) (is_sampled office pair.site Pm25) sampled-alone D in
        let kept = count-agree (λ day. is_some (pair_net_day office pair day)) (is_kept office pair.site Pm25) kept-alone D in
        let kept_makeups = count-agree (λ (m : Makeup). is_some (pair_net_day office pair m.makeup)) (λ (m : Makeup). is_kept office pair.site Pm25 m.makeup) (λ m. kept-alone m.makeup) C in
        rw days rw made_up rw sampled rw kept rw kept_makeups refl

    values-alone : filter_map (pair_net_day office pair) (days_of_quarter quarter) ≡ quarter_values office pair.site Pm25 quarter
    unfolding quarter_values
    values-alone = filter_map-agree (pair_net_day office pair) (net_day office pair.site Pm25) net-alone (days_of_quarter quarter)

    quarter-alone : pair_quarter office pair quarter ≡ pm25_quarter office pair.site quarter
    quarter-alone = λ i. record { counts = counts-alone i; values = values-alone i }

  -- ---- a year

  quarter-before : (year part : ℕ) → FIRST_YEAR ≤ year → part < 4 → year_end year ≤ pair.from
      → quarter_first (quarter_number year part) + days_in_quarter (quarter_number year part) ≤ pair.from
  quarter-before year part late small before =
      let q = quarter_number year part in
      let of_year : quarter_year q ≡ year = omega (arith, late, small) in
      let of_part : q % 4 ≡ part = omega (arith, small) in
      let first = first-is q year part of_year of_part in
      let days = days-are q year part of_year of_part in
      let whole = three_months year part in
      let last = months_in_order year (3 * part + 3) 12 (omega (arith, small)) in
      omega (arith, first, days, whole, last, twelve_months year, before)

  pub pm25-year-alone : (year : ℕ) → FIRST_YEAR ≤ year → year_end year ≤ pair.from → pair_pm25_year office pair year ≡ pm25_year office pair.site year
  unfolding pair_pm25_year pm25_year
  pm25-year-alone year late before =
      let q : (part : ℕ) → part < 4 → pair_quarter office pair (quarter_number year part) ≡ pm25_quarter office pair.site (quarter_number year part) =
      λ part small. quarter-alone (quarter_number year part) (quarter-before year part late small before)
      in
      let a = q 0 (omega arith) in
      let b = q 1 (omega arith) in
      let c = q 2 (omega arith) in
      let d = q 3 (omega arith) in
      λ i. a i ∷ b i ∷ c i ∷ d i ∷ []
