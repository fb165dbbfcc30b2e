-- The annual PM2.5 verdict on lists of values is that on what is kept of them: sums and numbers are enough.
use Rattle.std.proofs.Common.{◌≡◌, ℕ, zero, suc, ◌+◌, List, [], ◌∷◌, ◌++◌, length, map, refl, sym, ap, ◌∙◌, length-append, append-nil, arith}
use Rattle.std.specs.Prelude.{ℤ, pos, ◌+ℤ◌, Option, None, Some, option_map, option_and_then, slice_get}
use Rattle.std.specs.List.{filter_map, cons_option, flat_map, zip, sum_by}
use Rattle.std.proofs.lemmas.List.{map-append}
use Rattle.std.proofs.lemmas.List.Sums.{sum_by-cons}
use Rattle.aq_rules.specs.Lists.{least, greatest, all_of}
use Rattle.aq_rules.specs.Particles.QuarterCounts.{QuarterDays, counted_in, values_in}
use Rattle.aq_rules.specs.Particles.Means.{Fraction, quarterly_mean, mean_of_means}
use Rattle.aq_rules.specs.Particles.Percentile.{percentile}
use Rattle.aq_rules.specs.Particles.YearParts.{of_values}
use Rattle.aq_rules.specs.Particles.Substitution.{Matched, minimum_copies, maximum_copies, minimum_for, maximum_for, same_part, matched}
use Rattle.aq_rules.specs.Particles.AnnualVerdict.{annual_from, is_annual_year, counts_in, mean_of, annual_value, filled_mean, filled_value, annual_dv}
use Rattle.aq_rules.specs.Particles.DailyVerdict.{percentile_of}
use Rattle.std.proofs.lemmas.Int.{ints}
use Rattle.aq_rules.specs.Kept.Summaries.{PmQuarter, PmYear, counts_of, net_days_in, summary_of_quarter, summary_of_year}
use Rattle.aq_rules.specs.Kept.SummaryVerdicts.{of_summaries, mean_of_sums, kept_counted, kept_percentile, kept_annual_dv}
use Rattle.aq_rules.proofs.Sums.{total-append, least-of_lists, greatest-of_lists}

-- ---- lists

pub mapped : {A B C : Type 0} (g : B → C) (f : A → B) (h : A → C) → ((x : A) → g (f x) ≡ h x) → (xs : List A) → map g (map f xs) ≡ map h xs
mapped g f h same [] = refl
mapped g f h same (x ∷ xs) = λ i. same x i ∷ mapped g f h same xs i

filtered : {A B C : Type 0} (g : B → Option C) (f : A → B) (h : A → Option C) → ((x : A) → g (f x) ≡ h x) → (xs : List A) → filter_map g (map f xs) ≡ filter_map h xs
filtered g f h same [] = refl
filtered g f h same (x ∷ xs) = λ i. cons_option (same x i) (filtered g f h same xs i)

summed : {A B : Type 0} (g : B → ℕ) (f : A → B) (h : A → ℕ) → ((x : A) → g (f x) ≡ h x) → (xs : List A) → sum_by g (map f xs) ≡ sum_by h xs
summed g f h same [] = refl
summed g f h same (x ∷ xs) =
    sum_by-cons g (f x) (map f xs) ∙ (λ i. same x i + summed g f h same xs i) ∙ sym (sum_by-cons h x xs)

-- ---- a quarter and a year, and what is kept of them

abbrev pub s : QuarterDays → PmQuarter
s = summary_of_quarter

abbrev pub kept : List (List QuarterDays) → List PmYear
kept years = map summary_of_year years

abbrev pub row : Matched of_values → Matched of_summaries
row r = (s r.0, map s r.1)

mean-same : (more : List ℤ) (q : QuarterDays) → of_summaries.mean_with more (s q) ≡ of_values.mean_with more q
mean-same more q = λ i. (sym (total-append q.values more) i, sym (length-append q.values more) i)

pub days-summary : (three : List QuarterDays) → net_days_in (map s three) ≡ sum_by (λ (o : QuarterDays). length o.values) three
days-summary three = summed (λ (q : PmQuarter). q.net_days) s (λ (q : QuarterDays). length q.values) (λ q. refl) three

pub greatest-summary : (three : List QuarterDays) → filter_map (λ (o : PmQuarter). o.greatest) (map s three) ≡ filter_map (λ (o : QuarterDays). greatest o.values) three
greatest-summary three = filtered (λ (q : PmQuarter). q.greatest) s (λ (q : QuarterDays). greatest q.values) (λ q. refl) three

minimum-same : (r : Matched of_values) → minimum_for of_summaries (row r) ≡ minimum_for of_values r
minimum-same r =
    λ i. minimum_copies r.0.counts
    (days-summary r.1 i)
    (least (filtered (λ (q : PmQuarter). q.least) s (λ (q : QuarterDays). least q.values) (λ q. refl) r.1 i))

pub maximum-same : (r : Matched of_values) → maximum_for of_summaries (row r) ≡ maximum_for of_values r
maximum-same r =
    λ i. maximum_copies r.0.counts (greatest (greatest-summary r.1 i))

-- ---- quarters with those that match them

slice_get-summary : (year : List QuarterDays) (k : ℕ) → slice_get (map s year) k ≡ option_map s (slice_get year k)
slice_get-summary [] k = refl
slice_get-summary (q ∷ qs) zero = refl
slice_get-summary (q ∷ qs) (suc k) = slice_get-summary qs k

cons-summary : (o : Option QuarterDays) (qs : List QuarterDays) → cons_option (option_map s o) (map s qs) ≡ map s (cons_option o qs)
cons-summary None qs = refl
cons-summary (Some q) qs = refl

part-summary : (k : ℕ) (years : List (List QuarterDays)) → same_part of_summaries (kept years) k ≡ map s (same_part of_values years k)
part-summary k [] = refl
part-summary k (year ∷ years) =
    (λ i. cons_option (slice_get-summary year k i) (part-summary k years i)) ∙ cons-summary (slice_get year k) (same_part of_values years k)

zip-summary : (year : List QuarterDays) (triples : List (List QuarterDays)) → zip (map s year) (map (map s) triples) ≡ map row (zip year triples)
zip-summary [] triples = refl
zip-summary (q ∷ qs) [] = refl
zip-summary (q ∷ qs) (three ∷ triples) = ap (λ (l : List (Matched of_summaries)). (s q, map s three) ∷ l) (zip-summary qs triples)

pub matched-summary : (years : List (List QuarterDays)) (year : List QuarterDays) → matched of_summaries (kept years) (summary_of_year year) ≡ map row (matched of_values years year)
matched-summary years year =
    (λ i. zip (map s year) (part-summary 0 years i ∷ part-summary 1 years i ∷ part-summary 2 years i ∷ part-summary 3 years i ∷ []))
    ∙ zip-summary year (map (same_part of_values years) (0 ∷ 1 ∷ 2 ∷ 3 ∷ []))

matched-all : (all years : List (List QuarterDays)) → flat_map (matched of_summaries (kept all)) (kept years) ≡ map row (flat_map (matched of_values all) years)
matched-all all [] = refl
matched-all all (year ∷ years) =
    (λ i. matched-summary all year i ++ matched-all all years i)
    ∙ sym (map-append row (matched of_values all year) (flat_map (matched of_values all) years))

-- ---- the annual standard

quarters-all : (years : List (List QuarterDays)) → flat_map (λ (y : PmYear). y.quarters) (kept years) ≡ map s (flat_map (λ quarters. quarters) years)
quarters-all [] = refl
quarters-all (year ∷ years) =
    ap (λ (l : List PmQuarter). map s year ++ l) (quarters-all years) ∙ sym (map-append s year (flat_map (λ quarters. quarters) years))

pub mean_of-same : (quarters : List QuarterDays) → mean_of of_summaries (map s quarters) ≡ mean_of of_values quarters
mean_of-same quarters = ap mean_of_means (mapped (of_summaries.mean_with []) s (of_values.mean_with []) (mean-same []) quarters)

value-same : (years : List (List QuarterDays)) → annual_value of_summaries (kept years) ≡ annual_value of_values years
value-same years = ap (mean_of of_summaries) (quarters-all years) ∙ mean_of-same (flat_map (λ quarters. quarters) years)

filled-same : (given : Matched of_summaries → Option (List ℤ)) (copies : Matched of_values → Option (List ℤ)) → ((r : Matched of_values) → given (row r) ≡ copies r)
    → (years : List (List QuarterDays)) → filled_value of_summaries given (kept years) ≡ filled_value of_values copies years
filled-same given copies same years =
    ap (λ (l : List (Option Fraction)). option_and_then mean_of_means (all_of l))
    (ap (map (filled_mean of_summaries given)) (matched-all years years)
    ∙ mapped (filled_mean of_summaries given) row (filled_mean of_values copies)
    (λ r i. option_map (λ more. mean-same more r.0 i) (same r i))
    (flat_map (matched of_values years) years))

pub counts-same : (year : List QuarterDays) → counts_in of_summaries (summary_of_year year) ≡ counts_in of_values year
counts-same year = mapped counts_of s (λ (q : QuarterDays). q.counts) (λ q. refl) year

pub counted-same : (year : List QuarterDays) → kept_counted (map s year) ≡ counted_in year
counted-same year = summed (λ (q : PmQuarter). q.counted) s (λ (q : QuarterDays). q.counts.counted) (λ q. refl) year

pub kept_annual-same : (level : ℤ) (years : List (List QuarterDays)) → kept_annual_dv level (kept years) ≡ annual_dv level years
kept_annual-same level years =
    let valid : map (λ (y : PmYear). is_annual_year level (annual_value of_summaries (kept years)) (mean_of of_summaries y.quarters) (counts_in of_summaries y)) (kept years) ≡ map (λ (year : List QuarterDays). is_annual_year level (annual_value of_values years) (mean_of of_values year) (counts_in of_values year)) years =
    mapped (λ (y : PmYear). is_annual_year level (annual_value of_summaries (kept years)) (mean_of of_summaries y.quarters) (counts_in of_summaries y)) summary_of_year
    (λ (year : List QuarterDays). is_annual_year level (annual_value of_values years) (mean_of of_values year) (counts_in of_values year))
    (λ year i. is_annual_year level (value-same years i) (mean_of-same year i) (counts-same year i)) years
    in
    λ i. annual_from level (value-same years i) (valid i)
    (filled-same (minimum_for of_summaries) (minimum_for of_values) minimum-same years i)
    (filled-same (maximum_for of_summaries) (maximum_for of_values) maximum-same years i)

-- ---- without copies

mapped_alone : {A B : Type 0} (f g : A → B) → ((x : A) → f x ≡ g x) → (xs : List A) → map f xs ≡ map g xs
mapped_alone f g same [] = refl
mapped_alone f g same (x ∷ xs) = λ i. same x i ∷ mapped_alone f g same xs i

pub mean-plain : (quarters : List QuarterDays) → mean_of of_values quarters ≡ mean_of_means (map (λ (q : QuarterDays). quarterly_mean q.values) quarters)
mean-plain quarters =
    ap mean_of_means (mapped_alone (of_values.mean_with []) (λ (q : QuarterDays). quarterly_mean q.values) (λ q. ap quarterly_mean (append-nil q.values)) quarters)

no_more : (n : ℕ) → n + 0 ≡ n
no_more n = omega arith

no_more-sum : (z : ℤ) → z +ℤ pos 0 ≡ z
no_more-sum z = omega (arith, ints)

pub percentile-plain : (year : List QuarterDays) → percentile_of of_values year ≡ percentile (values_in year) (counted_in year)
percentile-plain year = λ i. percentile (append-nil (values_in year) i) (no_more (counted_in year) i)

pub sums-plain : (quarters : List PmQuarter) → mean_of_sums quarters ≡ mean_of_means (map (λ (q : PmQuarter). (q.sum, q.net_days)) quarters)
sums-plain quarters =
    ap mean_of_means
    (mapped_alone (of_summaries.mean_with []) (λ (q : PmQuarter). (q.sum, q.net_days)) (λ q i. (no_more-sum q.sum i, no_more q.net_days i)) quarters)

pub kept-plain : (year : PmYear) → kept_percentile year ≡ percentile year.top (kept_counted year.quarters)
kept-plain year = λ i. percentile (append-nil year.top i) (no_more (kept_counted year.quarters) i)

-- ---- of several lists, the least of their least values, and the greatest of their greatest

pub minimum-of_all : (q : QuarterDays) (three : List QuarterDays)
    → minimum_for of_values (q, three) ≡ minimum_copies q.counts (sum_by (λ (o : QuarterDays). length o.values) three) (least (values_in three))
minimum-of_all q three =
    ap (minimum_copies q.counts (sum_by (λ (o : QuarterDays). length o.values) three)) (least-of_lists (λ (o : QuarterDays). o.values) three)

pub maximum-of_all : (q : QuarterDays) (three : List QuarterDays) → maximum_for of_values (q, three) ≡ maximum_copies q.counts (greatest (values_in three))
maximum-of_all q three = ap (maximum_copies q.counts) (greatest-of_lists (λ (o : QuarterDays). o.values) three)
