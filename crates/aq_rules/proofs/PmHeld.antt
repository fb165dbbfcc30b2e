-- Means, percentiles and tests of PM2.5 values in range are in range.
use Rattle.std.proofs.Common.{◌≡◌, ℕ, zero, suc, ◌+◌, ◌-◌, ◌≤◌, Bool, true, false, cond, List, [], ◌∷◌, ◌++◌, length, map, replicate, arith}
use Rattle.std.specs.Prelude.{ℤ, ◌+ℤ◌, Option, Some, None, option_map, option_and_then, ◌==◌, int_lt, slice_get}
use Rattle.std.specs.List.{filter_map, cons_option, flat_map, list_all, zip}
use Rattle.std.specs.Option.{IfSome}
use Rattle.std.proofs.lemmas.Int.{ints}
use Rattle.std.proofs.lemmas.Bool.Decides.{nat_tests}
use Rattle.std.proofs.lemmas.Bool.{and_parts}
use Rattle.aq_base.specs.Site.{Site}
use Rattle.aq_rules.specs.Lists.{least, greatest, ranked, all_of}
use Rattle.aq_rules.specs.Office.Office.{Office, IsOffice}
use Rattle.aq_rules.specs.Particles.Means.{Fraction, quarterly_mean, has_days, mean_of_means}
use Rattle.aq_rules.specs.Particles.Percentile.{percentile, rank_of}
use Rattle.aq_rules.specs.Particles.QuarterCounts.{QuarterDays, counted_in, values_in, pm25_quarter, pm25_year, quarters_of}
use Rattle.aq_rules.specs.Particles.YearParts.{of_values}
use Rattle.aq_rules.specs.Particles.Substitution.{Matched, minimum_for, maximum_for, same_part, matched}
use Rattle.aq_rules.specs.Particles.AnnualVerdict.{annual_test, annual_value, filled_mean, filled_value, are_all}
use Rattle.aq_rules.specs.Particles.DailyVerdict.{daily_test, daily_value_of, percentile_of, filled_percentile, value_of_three}
use Rattle.aq_rules.proofs.Elements.{Every, every-append, every-map}
use Rattle.aq_rules.proofs.Pm25Range.{quarter_values-in_range}
use Rattle.aq_rules.proofs.ValueRange.{least-in_range, greatest-in_range, every-ranked}
use Rattle.aq_rules.proofs.Held.{Held, IfHeld, Part, half_up-held, total-held, mean_of_means-held, all_of-every}

-- ---- quarters of values in range

abbrev pub In : ℤ → Type 0
In v = Held 999 99999 v

abbrev pub IfIn : Option ℤ → Type 0
IfIn o = IfHeld 999 99999 o

abbrev pub QuarterIn : QuarterDays → Type 0
QuarterIn q = Every In q.values

abbrev pub YearIn : List QuarterDays → Type 0
YearIn year = Every QuarterIn year

pub year-in : (office : Office) (site : Site) (year : ℕ) → IsOffice office → YearIn (pm25_year office site year)
unfolding pm25_year
year-in office site year valid = each (quarters_of year)
  where
    each : (quarters : List ℕ) → Every QuarterIn (map (pm25_quarter office site) quarters)
    each [] = tt
    each (quarter ∷ quarters) = (quarter_values-in_range office site quarter valid, each quarters)

pub years-in : (office : Office) (site : Site) (years : List ℕ) → IsOffice office → Every YearIn (map (pm25_year office site) years)
years-in office site [] valid = tt
years-in office site (year ∷ years) valid = (year-in office site year valid, years-in office site years valid)

every-flat : {X Y : Type 0} (P : X → Type 0) (Q : Y → Type 0) (f : X → List Y) → ((x : X) → P x → Every Q (f x)) → (xs : List X) → Every P xs → Every Q (flat_map f xs)
every-flat P Q f h [] every = tt
every-flat P Q f h (x ∷ xs) every = every-append Q (f x) (flat_map f xs) (h x every.0) (every-flat P Q f h xs every.1)

-- ---- means

-- if the quarter has a day
abbrev pub MeanIn : Fraction → Type 0
MeanIn f = has_days f ≡ true → Part 999 99999 f

parts-of : (fs : List Fraction) → Every MeanIn fs → list_all has_days fs ≡ true → Every (Part 999 99999) fs
parts-of [] every days = tt
parts-of (f ∷ fs) every days =
    let d = and_parts (has_days f) (list_all has_days fs) days in (every.0 d.0, parts-of fs every.1 d.1)

pub mean_of_means-in : (fs : List Fraction) → Every MeanIn fs → IfIn (mean_of_means fs)
mean_of_means-in fs every = mean_of_means-held 999 99999 fs (parts-of fs every)

list-mean : (values : List ℤ) → Every In values → MeanIn (quarterly_mean values)
list-mean values every days =
    let some : 1 ≤ length values = grind (arith, nat_tests, days) in
    let sum = total-held 999 99999 values every in
    record { some = some; least = sum.0; most = sum.1 }

mean_with-in : (copies : List ℤ) (q : QuarterDays) → Every In copies → QuarterIn q → MeanIn (of_values.mean_with copies q)
mean_with-in copies q more every = list-mean (q.values ++ copies) (every-append In q.values copies every more)

pub annual_value-in : (years : List (List QuarterDays)) → Every YearIn years → IfIn (annual_value of_values years)
annual_value-in years every =
    mean_of_means-in (map (of_values.mean_with []) (flat_map of_values.quarters years))
    (every-map QuarterIn MeanIn (of_values.mean_with []) (λ q h. mean_with-in [] q tt h) (flat_map of_values.quarters years)
    (every-flat YearIn QuarterIn of_values.quarters (λ year h. h) years every))

-- ---- percentiles

at-in : (values : List ℤ) (k : ℕ) → Every In values → IfIn (slice_get values k)
at-in [] k every = tt
at-in (v ∷ vs) zero every = every.0
at-in (v ∷ vs) (suc k) every = at-in vs k every.1

pub percentile-in : (values : List ℤ) (counted : ℕ) → Every In values → IfIn (percentile values counted)
percentile-in values counted every =
    elim (counted == 0) as (λ b. IfIn (cond b None (slice_get (ranked values) (rank_of counted - 1)))) [
      | true ↦ tt
      | false ↦ at-in (ranked values) (rank_of counted - 1) (every-ranked 99999 values every)
    ]

pub values-in : (year : List QuarterDays) → YearIn year → Every In (values_in year)
values-in year every = every-flat QuarterIn In (λ (q : QuarterDays). q.values) (λ q h. h) year every

percentile_with-in : (copies : List ℤ) (year : List QuarterDays) → Every In copies → YearIn year → IfIn (of_values.percentile_with copies year)
percentile_with-in copies year more every =
    percentile-in (values_in year ++ copies) (counted_in year + length copies) (every-append In (values_in year) copies (values-in year every) more)

of_three : (os : List (Option ℤ)) → Every IfIn os → IfIn (value_of_three os)
of_three [] every = tt
of_three (a ∷ []) every = tt
of_three (a ∷ b ∷ []) every = tt
of_three (Some a ∷ Some b ∷ Some c ∷ []) every =
    half_up-held (a +ℤ b +ℤ c) 30 999 99999 (omega arith) (omega (arith, ints, every.0.0, every.1.0.0, every.1.1.0.0)) (omega (arith, ints, every.0.1, every.1.0.1, every.1.1.0.1))
of_three (None ∷ b ∷ c ∷ []) every = tt
of_three (Some a ∷ None ∷ c ∷ []) every = tt
of_three (Some a ∷ Some b ∷ None ∷ []) every = tt
of_three (a ∷ b ∷ c ∷ d ∷ os) every = tt

pub daily_value-in : (years : List (List QuarterDays)) → Every YearIn years → IfIn (daily_value_of of_values years)
daily_value-in years every =
    of_three (map (percentile_of of_values) years) (every-map YearIn IfIn (percentile_of of_values) (λ year h. percentile_with-in [] year tt h) years every)

-- ---- copies

abbrev IfCopies : Option (List ℤ) → Type 0
IfCopies o = IfSome o (Every In)

replicate-in : (n : ℕ) (v : ℤ) → In v → Every In (replicate n v)
replicate-in zero v h = tt
replicate-in (suc n) v h = (h, replicate-in n v h)

copies-of : (n : ℕ) (o : Option ℤ) → IfIn o → IfCopies (option_map (replicate n) o)
copies-of n None h = tt
copies-of n (Some v) h = replicate-in n v h

by_tests : (a b : Bool) (n : ℕ) (o : Option ℤ) → IfIn o → IfCopies (cond a (Some []) (cond b (option_map (replicate n) o) None))
by_tests true b n o h = tt
by_tests false true n o h = copies-of n o h
by_tests false false n o h = tt

-- a quarter with the three that match it
abbrev RowIn : Matched of_values → Type 0
RowIn row = QuarterIn row.0 × YearIn row.1

abbrev CopiesIn : (Matched of_values → Option (List ℤ)) → Type 0
CopiesIn copies = (row : Matched of_values) → RowIn row → IfCopies (copies row)

value-onto : (o : Option ℤ) (values : List ℤ) → IfIn o → Every In values → Every In (cons_option o values)
value-onto None values h every = every
value-onto (Some v) values h every = (h, every)

kept-in : (f : QuarterDays → Option ℤ) → ((q : QuarterDays) → QuarterIn q → IfIn (f q)) → (qs : List QuarterDays) → YearIn qs → Every In (filter_map f qs)
kept-in f h [] every = tt
kept-in f h (q ∷ qs) every = value-onto (f q) (filter_map f qs) (h q every.0) (kept-in f h qs every.1)

minimum-in : CopiesIn (minimum_for of_values)
minimum-in row h =
    by_tests _ _ (11 - row.0.counts.creditable) (least (filter_map of_values.least_value row.1))
    (least-in_range 99999 (filter_map of_values.least_value row.1) (kept-in of_values.least_value (λ q k. least-in_range 99999 q.values k) row.1 h.1))

maximum-in : CopiesIn (maximum_for of_values)
maximum-in row h =
    by_tests _ _ (row.0.counts.scheduled - row.0.counts.creditable) (greatest (filter_map of_values.greatest_value row.1))
    (greatest-in_range 99999 (filter_map of_values.greatest_value row.1) (kept-in of_values.greatest_value (λ q k. greatest-in_range 99999 q.values k) row.1 h.1))

onto-in : (o : Option QuarterDays) (qs : List QuarterDays) → IfSome o QuarterIn → YearIn qs → YearIn (cons_option o qs)
onto-in None qs h every = every
onto-in (Some q) qs h every = (h, every)

quarter_at-in : (year : List QuarterDays) (k : ℕ) → YearIn year → IfSome (slice_get year k) QuarterIn
quarter_at-in [] k every = tt
quarter_at-in (q ∷ qs) zero every = every.0
quarter_at-in (q ∷ qs) (suc k) every = quarter_at-in qs k every.1

part-in : (years : List (List QuarterDays)) (k : ℕ) → Every YearIn years → YearIn (same_part of_values years k)
part-in [] k every = tt
part-in (year ∷ years) k every = onto-in (slice_get year k) (same_part of_values years k) (quarter_at-in year k every.0) (part-in years k every.1)

rows-in : (year : List QuarterDays) (triples : List (List QuarterDays)) → YearIn year → Every YearIn triples → Every RowIn (zip year triples)
rows-in [] triples every more = tt
rows-in (q ∷ qs) [] every more = tt
rows-in (q ∷ qs) (three ∷ triples) every more = ((every.0, more.0), rows-in qs triples every.1 more.1)

matched-in : (years : List (List QuarterDays)) → Every YearIn years → (year : List QuarterDays) → YearIn year → Every RowIn (matched of_values years year)
matched-in years every year h =
    rows-in year (map (same_part of_values years) (0 ∷ 1 ∷ 2 ∷ 3 ∷ [])) h (part-in years 0 every, (part-in years 1 every, (part-in years 2 every, (part-in years 3 every, tt))))

-- ---- the values of the tests

mean_by : (q : QuarterDays) (o : Option (List ℤ)) → QuarterIn q → IfCopies o → IfSome (option_map (λ copies. of_values.mean_with copies q) o) MeanIn
mean_by q None every h = tt
mean_by q (Some copies) every h = mean_with-in copies q h every

filled_value-in : (copies : Matched of_values → Option (List ℤ)) → CopiesIn copies → (years : List (List QuarterDays)) → Every YearIn years → IfIn (filled_value of_values copies years)
filled_value-in copies are years every =
    let rows = flat_map (matched of_values years) years in
    let all : Every RowIn rows = every-flat YearIn RowIn (matched of_values years) (matched-in years every) years every in
    by_means (all_of (map (filled_mean of_values copies) rows))
    (all_of-every MeanIn (map (filled_mean of_values copies) rows)
    (every-map RowIn (λ o. IfSome o MeanIn) (filled_mean of_values copies) (λ row h. mean_by row.0 (copies row) h.0 (are row h)) rows all))
  where
    by_means : (o : Option (List Fraction)) → IfSome o (Every MeanIn) → IfIn (option_and_then mean_of_means o)
    by_means None h = tt
    by_means (Some fs) h = mean_of_means-in fs h

pub minimum_value-in : (years : List (List QuarterDays)) → Every YearIn years → IfIn (filled_value of_values (minimum_for of_values) years)
minimum_value-in years every = filled_value-in (minimum_for of_values) minimum-in years every

pub maximum_value-in : (years : List (List QuarterDays)) → Every YearIn years → IfIn (filled_value of_values (maximum_for of_values) years)
maximum_value-in years every = filled_value-in (maximum_for of_values) maximum-in years every

filled_percentile-in : (years : List (List QuarterDays)) → Every YearIn years → (year : List QuarterDays) → YearIn year → IfIn (filled_percentile of_values years year)
filled_percentile-in years every year h =
    by_copies (all_of (map (maximum_for of_values) (matched of_values years year)))
    (all_of-every (Every In) (map (maximum_for of_values) (matched of_values years year))
    (every-map RowIn IfCopies (maximum_for of_values) maximum-in (matched of_values years year) (matched-in years every year h)))
  where
    by_copies : (o : Option (List (List ℤ))) → IfSome o (Every (Every In))
        → IfIn (option_and_then (λ copies. of_values.percentile_with copies year) (option_map (flat_map (λ copies. copies)) o))
    by_copies None k = tt
    by_copies (Some all) k = percentile_with-in (flat_map (λ copies. copies) all) year (every-flat (Every In) In (λ copies. copies) (λ copies e. e) all k) h

pub maximum_daily-in : (years : List (List QuarterDays)) → Every YearIn years → IfIn (value_of_three (map (filled_percentile of_values years) years))
maximum_daily-in years every =
    of_three (map (filled_percentile of_values years) years) (every-map YearIn IfIn (filled_percentile of_values years) (filled_percentile-in years every) years every)

pub annual_test-in : (level : ℤ) (value : Option ℤ) (valid : List Bool) (minimum maximum : Option ℤ) → IfIn minimum → IfIn maximum → IfIn (annual_test level value valid minimum maximum)
annual_test-in level None valid minimum maximum h k = tt
annual_test-in level (Some value) valid minimum maximum h k = tests (are_all valid) (int_lt level value)
  where
    tests : (a b : Bool) → IfIn (cond a None (cond b minimum maximum))
    tests true b = tt
    tests false true = h
    tests false false = k

pub daily_test-in : (value : Option ℤ) (valid : List Bool) (maximum : Option ℤ) → IfIn maximum → IfIn (daily_test value valid maximum)
daily_test-in None valid maximum h = tt
daily_test-in (Some value) valid maximum h = elim (are_all valid) as (λ b. IfIn (cond b None maximum)) [ true ↦ tt | false ↦ h ]
