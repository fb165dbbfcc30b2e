-- What is kept of a PM10 quarter keeps its facts.
use Rattle.std.proofs.Common.{◌≡◌, ℕ, zero, suc, ◌+◌, ◌*◌, ◌/◌, ◌%◌, ◌<◌, ◌≤◌, Bool, true, false, cond, List, [], ◌∷◌, length, map, refl, sym, ap, ◌∙◌, arith, length-append}
use Rattle.std.specs.Prelude.{ℤ, Option, Some, None, is_some, option_and_then, sum, ◌==◌}
use Rattle.std.specs.Option.{option_map_or}
use Rattle.std.specs.List.{sum_by, count_by, filter, filter_map, cons_option, flat_map, range_with_len}
use Rattle.std.proofs.lemmas.List.FromFn.{length-range_with_len}
use Rattle.std.proofs.lemmas.List.Sums.{sum_by-cons, sum_by-append, sum_by-le-sum_by, length-filter, count_by-le-length}
use Rattle.std.proofs.lemmas.Bool.Decides.{nat_tests}
use Rattle.std.proofs.Math.Nat.{div-le_of_le-mul}
use Rattle.aq_base.specs.Calendar.{quarter_number, quarter_year, quarter_first, days_in_month, days_in_quarter}
use Rattle.aq_base.specs.Site.{Site}
use Rattle.aq_base.specs.declared.monitor.Pollutant.TheVariants.{Pm10}
use Rattle.aq_rules.specs.Office.Office.{Office}
use Rattle.aq_rules.specs.Office.Schedule.{is_scheduled}
use Rattle.aq_rules.specs.Ozone.SiteHour.{Cell}
use Rattle.aq_rules.specs.Particles.ParticleDay.{site_day, net_day, unless_excluded}
use Rattle.aq_rules.specs.Particles.QuarterCounts.{days_of_quarter, scheduled_days, is_sampled}
use Rattle.aq_rules.specs.Particles.Strata.{strata_of}
use Rattle.aq_rules.specs.Particles.Pm10Estimate.{Pm10Quarter, exceeds, sampled_strata, sixtieths_of, is_exceedance, strata_samples, pm10_quarter, pm10_year}
use Rattle.aq_rules.specs.Kept.Summaries.{KeepsPm10Quarter, KeepsPm10Year}
use Rattle.std.proofs.lemmas.List.Elements.{All-cons, All-nil}
use Rattle.aq_rules.proofs.Cuts.{strata-joined}

-- ---- the days of a quarter

feb : (b : Bool) → (90 ≤ 0 + 31 + cond b 29 28 + 31) × (0 + 31 + cond b 29 28 + 31 ≤ 92)
feb true = (omega arith, omega arith)
feb false = (omega arith, omega arith)

days_by : (year part : ℕ) → part < 4
    → (90 ≤ sum (map (days_in_month year) (range_with_len (3 * part + 1) 3))) × (sum (map (days_in_month year) (range_with_len (3 * part + 1) 3)) ≤ 92)
days_by year zero low = feb (year % 4 == 0)
days_by year (suc zero) low = (omega arith, omega arith)
days_by year (suc (suc zero)) low = (omega arith, omega arith)
days_by year (suc (suc (suc zero))) low = (omega arith, omega arith)
days_by year (suc (suc (suc (suc part)))) low = absurd (omega arith)

pub quarter_days : (quarter : ℕ) → (90 ≤ days_in_quarter quarter) × (days_in_quarter quarter ≤ 92)
quarter_days quarter = days_by (quarter_year quarter) (quarter % 4) (omega arith)

pub length-days : (quarter : ℕ) → length (days_of_quarter quarter) ≡ days_in_quarter quarter
unfolding days_of_quarter
length-days quarter = length-range_with_len (quarter_first quarter) (days_in_quarter quarter)

-- ---- counts

pub count-filter : {X : Type 0} (p f : X → Bool) (xs : List X) → count_by p (filter f xs) ≤ count_by p xs
count-filter p f [] = omega arith
count-filter p f (x ∷ xs) =
    elim (f x) as (λ b. count_by p (cond b (x ∷ filter f xs) (filter f xs)) ≤ count_by p (x ∷ xs)) [
      | true ↦ omega (arith, sum_by-cons (λ y. cond (p y) 1 0) x (filter f xs), sum_by-cons (λ y. cond (p y) 1 0) x xs, count-filter p f xs)
      | false ↦ omega (arith, sum_by-cons (λ y. cond (p y) 1 0) x xs, count-filter p f xs)
    ]

one_of : (a b : Bool) → (a ≡ true → b ≡ true) → cond a 1 0 ≤ cond b 1 0
one_of true true h = omega arith
one_of true false h = let f = h refl in cc
one_of false b h = omega arith

pub count-implied : {X : Type 0} (p q : X → Bool) → ((x : X) → p x ≡ true → q x ≡ true) → (xs : List X) → count_by p xs ≤ count_by q xs
count-implied p q h xs = sum_by-le-sum_by (λ x. cond (p x) 1 0) (λ x. cond (q x) 1 0) xs (λ x. one_of (p x) (q x) (h x))

pub length-filter-le : {X : Type 0} (f : X → Bool) (xs : List X) → length (filter f xs) ≤ length xs
length-filter-le f xs = omega (arith, length-filter f xs, count_by-le-length f xs)

-- ---- the samples of the strata and the days

pub length-kept : {X Y : Type 0} (f : X → Option Y) (xs : List X) → length (filter_map f xs) ≤ length xs
length-kept f [] = omega arith
length-kept f (x ∷ xs) =
    elim (f x) as (λ o. length (cons_option o (filter_map f xs)) ≤ length (x ∷ xs)) [
      | None ↦ omega (arith, length-kept f xs)
      | Some y ↦ omega (arith, length-kept f xs)
    ]

count-kept : {X Y : Type 0} (p : Y → Bool) (f : X → Option Y) (xs : List X) → count_by p (filter_map f xs) ≡ count_by (λ x. option_map_or p (f x) false) xs
count-kept p f [] = refl
count-kept {X = X} {Y = Y} p f (x ∷ xs) =
    by_value (f x) (count-kept p f xs) ∙ sym (sum_by-cons (λ y. cond (option_map_or p (f y) false) 1 0) x xs)
  where
    by_value : (o : Option Y) → count_by p (filter_map f xs) ≡ count_by (λ y. option_map_or p (f y) false) xs
        → count_by p (cons_option o (filter_map f xs)) ≡ cond (option_map_or p o false) 1 0 + count_by (λ y. option_map_or p (f y) false) xs
    by_value None rest = omega (arith, rest)
    by_value (Some y) rest = omega (arith, rest, sum_by-cons (λ z. cond (p z) 1 0) y (filter_map f xs))

samples-days : {X Y : Type 0} (f : X → Option Y) (strata : List (List X)) → sum_by length (map (filter_map f) strata) ≤ length (flat_map (λ days. days) strata)
samples-days f [] = omega arith
samples-days f (days ∷ strata) =
    omega (arith, sum_by-cons length (filter_map f days) (map (filter_map f) strata), length-kept f days, samples-days f strata, length-append days (flat_map (λ d. d) strata))

exceedances-days : {X Y : Type 0} (p : Y → Bool) (f : X → Option Y) (strata : List (List X))
    → sum_by (count_by p) (map (filter_map f) strata) ≡ count_by (λ x. option_map_or p (f x) false) (flat_map (λ days. days) strata)
exceedances-days p f [] = refl
exceedances-days p f (days ∷ strata) =
    omega (arith, sum_by-cons (count_by p) (filter_map f days) (map (filter_map f) strata), count-kept p f days, exceedances-days p f strata, sum_by-append (λ x. cond (option_map_or p (f x) false) 1 0) days (flat_map (λ d. d) strata))

-- ---- strata with a sample

strata-samples : (strata : List (List ℤ)) → length (sampled_strata strata) ≤ sum_by length strata
strata-samples [] = omega arith
strata-samples ([] ∷ strata) = omega (arith, strata-samples strata, sum_by-cons length [] strata)
strata-samples ((v ∷ values) ∷ strata) = omega (arith, strata-samples strata, sum_by-cons length (v ∷ values) strata)

strata-none : (strata : List (List ℤ)) → (length (sampled_strata strata) == 0) ≡ (sum_by length strata == 0)
strata-none [] = refl
strata-none ([] ∷ strata) =
    let sum : sum_by length ([] ∷ strata) ≡ sum_by length strata = omega (arith, sum_by-cons length [] strata) in
    strata-none strata ∙ ap (λ n. n == 0) (sym sum)
strata-none ((v ∷ values) ∷ strata) =
    let sum = sum_by-cons length (v ∷ values) strata in
    let some : (sum_by length ((v ∷ values) ∷ strata) == 0) ≡ false = grind (arith, nat_tests, sum) in
    let one : (length (sampled_strata ((v ∷ values) ∷ strata)) == 0) ≡ false = grind (arith, nat_tests) in
    one ∙ sym some

most_sixtieths : (c n : ℕ) → c ≤ n → 60 * c / n ≤ 60
most_sixtieths c n h = div-le_of_le-mul n (omega arith)

sixtieths-few : (strata : List (List ℤ)) → sum_by sixtieths_of (sampled_strata strata) ≤ 60 * length (sampled_strata strata)
sixtieths-few [] = omega arith
sixtieths-few ([] ∷ strata) = sixtieths-few strata
sixtieths-few ((v ∷ values) ∷ strata) =
    let first : sixtieths_of (v ∷ values) ≤ 60 = most_sixtieths (count_by exceeds (v ∷ values)) (length (v ∷ values)) (count_by-le-length exceeds (v ∷ values)) in
    omega (arith, first, sixtieths-few strata, sum_by-cons sixtieths_of (v ∷ values) (sampled_strata strata))

-- ---- an office's quarter

exceeding-sampled : (o : Option Cell) → option_map_or exceeds (option_and_then unless_excluded o) false ≡ true → is_some o ≡ true
exceeding-sampled None h = h
exceeding-sampled (Some cell) h = refl

pub pm10_quarter-keeps : (office : Office) (site : Site) (quarter : ℕ) → KeepsPm10Quarter (pm10_quarter office site quarter)
unfolding pm10_quarter
pm10_quarter-keeps office site quarter =
    let days = days_in_quarter quarter in
    let scheduled = scheduled_days office site Pm10 quarter in
    let strata = strata_samples office site quarter in
    let number = length-days quarter in
    let joined = strata-joined office site quarter in
    let samples : sum_by length strata ≤ length (days_of_quarter quarter) =
    let h = samples-days (net_day office site Pm10) (strata_of office site quarter) in rw joined at h
    in
    let exceeding : sum_by (count_by exceeds) strata ≡ count_by (is_exceedance office site) (days_of_quarter quarter) =
    exceedances-days exceeds (net_day office site Pm10) (strata_of office site quarter) ∙ ap (count_by (is_exceedance office site)) joined
    in
    record {
      at_least = (quarter_days quarter).0;
      at_most = (quarter_days quarter).1;
      captured = count_by-le-length (is_sampled office site Pm10) scheduled;
      scheduled = omega (arith, length-filter-le (is_scheduled office.records site Pm10) (days_of_quarter quarter), number);
      strata = strata-samples strata;
      samples = omega (arith, samples, number);
      sampled = strata-none strata;
      scheduled_exceedances = omega (arith, exceeding, count-filter (is_exceedance office site) (is_scheduled office.records site Pm10) (days_of_quarter quarter));
      exceedances = sum_by-le-sum_by (count_by exceeds) length strata (λ values. count_by-le-length exceeds values);
      captured_exceedances = count-implied (is_exceedance office site) (is_sampled office site Pm10) (λ day. exceeding-sampled (site_day office site Pm10 day)) scheduled;
      sixtieths = sixtieths-few strata;
    }

pub pm10_year-keeps : (office : Office) (site : Site) (year : ℕ) → KeepsPm10Year (pm10_year office site year)
unfolding pm10_year
pm10_year-keeps office site year =
    let q : ℕ → Pm10Quarter = λ part. pm10_quarter office site (quarter_number year part) in
    let keeps : (part : ℕ) → KeepsPm10Quarter (q part) = λ part. pm10_quarter-keeps office site (quarter_number year part) in
    record {
      four = refl;
      each =
          All-cons KeepsPm10Quarter (q 0) (q 1 ∷ q 2 ∷ q 3 ∷ []) (keeps 0)
          (All-cons KeepsPm10Quarter (q 1) (q 2 ∷ q 3 ∷ []) (keeps 1)
          (All-cons KeepsPm10Quarter (q 2) (q 3 ∷ []) (keeps 2)
          (All-cons KeepsPm10Quarter (q 3) [] (keeps 3) (All-nil KeepsPm10Quarter))));
    }
