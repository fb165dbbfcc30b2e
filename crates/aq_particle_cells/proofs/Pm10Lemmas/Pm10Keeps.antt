-- A PM10 quarter by the values of its days keeps the facts of a kept quarter.
use Rattle.std.proofs.Common.{◌≡◌, ℕ, ◌+◌, ◌*◌, ◌/◌, ◌≤◌, Bool, true, false, cond, List, [], ◌∷◌, length, map, refl, sym, ap, ◌∙◌, arith, length-append}
use Rattle.std.specs.Prelude.{ℤ, Option, Some, None, is_some, option_and_then, ◌==◌}
use Rattle.std.specs.Option.{option_map_or}
use Rattle.std.specs.List.{sum_by, count_by, filter, filter_map, cons_option, flat_map}
use Rattle.std.proofs.lemmas.List.Sums.{sum_by-cons, sum_by-append, sum_by-le-sum_by, count_by-le-length}
use Rattle.std.proofs.lemmas.Bool.Decides.{nat_tests}
use Rattle.std.proofs.Math.Nat.{div-le_of_le-mul}
use Rattle.aq_base.specs.Calendar.{days_in_quarter}
use Rattle.aq_rules.proofs.Pm10Facts.{count-filter, count-implied, length-days, length-filter-le, length-kept, quarter_days}
use Rattle.aq_rules.specs.Kept.Summaries.{KeepsPm10Quarter}
use Rattle.aq_rules.specs.Ozone.SiteHour.{Cell}
use Rattle.aq_rules.specs.Particles.ParticleDay.{unless_excluded}
use Rattle.aq_rules.specs.Particles.Pm10Estimate.{exceeds, sampled_strata, sixtieths_of, quarter_of_strata}
use Rattle.aq_rules.specs.Particles.QuarterCounts.{days_of_quarter}

-- ---- the samples of the strata and the days

count-kept : {X Y : Type 0} (p : Y → Bool) (f : X → Option Y) (xs : List X) → count_by p (filter_map f xs) ≡ count_by (λ x. option_map_or p (f x) false) xs
count-kept p f [] = refl
count-kept {X = X} {Y = Y} p f (x ∷ xs) =
    by_value (f x) (count-kept p f xs) ∙ sym (sum_by-cons (λ y. cond (option_map_or p (f y) false) 1 0) x xs)
  where
    by_value : (o : Option Y) → count_by p (filter_map f xs) ≡ count_by (λ y. option_map_or p (f y) false) xs
        → count_by p (cons_option o (filter_map f xs)) ≡ cond (option_map_or p o false) 1 0 + count_by (λ y. option_map_or p (f y) false) xs
    by_value None rest = omega (arith, rest)
    by_value (Some y) rest = omega (arith, rest, sum_by-cons (λ z. cond (p z) 1 0) y (filter_map f xs))

samples-days : {X Y : Type 0} (f : X → Option Y) (strata : List (List X)) → sum_by length (map (filter_map f) strata) ≤ length (flat_map (λ days. days) strata)
samples-days f [] = omega arith
samples-days f (days ∷ strata) =
    omega (arith, sum_by-cons length (filter_map f days) (map (filter_map f) strata), length-kept f days, samples-days f strata, length-append days (flat_map (λ d. d) strata))

exceedances-days : {X Y : Type 0} (p : Y → Bool) (f : X → Option Y) (strata : List (List X))
    → sum_by (count_by p) (map (filter_map f) strata) ≡ count_by (λ x. option_map_or p (f x) false) (flat_map (λ days. days) strata)
exceedances-days p f [] = refl
exceedances-days p f (days ∷ strata) =
    omega (arith, sum_by-cons (count_by p) (filter_map f days) (map (filter_map f) strata), count-kept p f days, exceedances-days p f strata, sum_by-append (λ x. cond (option_map_or p (f x) false) 1 0) days (flat_map (λ d. d) strata))

-- ---- strata with a sample

strata-samples : (strata : List (List ℤ)) → length (sampled_strata strata) ≤ sum_by length strata
strata-samples [] = omega arith
strata-samples ([] ∷ strata) = omega (arith, strata-samples strata, sum_by-cons length [] strata)
strata-samples ((v ∷ values) ∷ strata) = omega (arith, strata-samples strata, sum_by-cons length (v ∷ values) strata)

strata-none : (strata : List (List ℤ)) → (length (sampled_strata strata) == 0) ≡ (sum_by length strata == 0)
strata-none [] = refl
strata-none ([] ∷ strata) =
    let sum : sum_by length ([] ∷ strata) ≡ sum_by length strata = omega (arith, sum_by-cons length [] strata) in
    strata-none strata ∙ ap (λ n. n == 0) (sym sum)
strata-none ((v ∷ values) ∷ strata) =
    let sum = sum_by-cons length (v ∷ values) strata in
    let some : (sum_by length ((v ∷ values) ∷ strata) == 0) ≡ false = grind (arith, nat_tests, sum) in
    let one : (length (sampled_strata ((v ∷ values) ∷ strata)) == 0) ≡ false = grind (arith, nat_tests) in
    one ∙ sym some

most_sixtieths : (c n : ℕ) → c ≤ n → 60 * c / n ≤ 60
most_sixtieths c n h = div-le_of_le-mul n (omega arith)

sixtieths-few : (strata : List (List ℤ)) → sum_by sixtieths_of (sampled_strata strata) ≤ 60 * length (sampled_strata strata)
sixtieths-few [] = omega arith
sixtieths-few ([] ∷ strata) = sixtieths-few strata
sixtieths-few ((v ∷ values) ∷ strata) =
    let first : sixtieths_of (v ∷ values) ≤ 60 = most_sixtieths (count_by exceeds (v ∷ values)) (length (v ∷ values)) (count_by-le-length exceeds (v ∷ values)) in
    omega (arith, first, sixtieths-few strata, sum_by-cons sixtieths_of (v ∷ values) (sampled_strata strata))

-- ---- a quarter by the values of its days

exceeding-sampled : (o : Option Cell) → option_map_or exceeds (option_and_then unless_excluded o) false ≡ true → is_some o ≡ true
exceeding-sampled None h = h
exceeding-sampled (Some cell) h = refl

module _ (is_asked : ℕ → Bool) (cell : ℕ → Option Cell) (quarter : ℕ) (strata : List (List ℕ)) (joined : flat_map (λ days. days) strata ≡ days_of_quarter quarter) where
  abbrev net : ℕ → Option ℤ
  net day = option_and_then unless_excluded (cell day)

  abbrev exceeding : ℕ → Bool
  exceeding day = option_map_or exceeds (net day) false

  abbrev asked : List ℕ
  asked = filter is_asked (days_of_quarter quarter)

  pub quarter-keeps : KeepsPm10Quarter (quarter_of_strata (days_in_quarter quarter) (length asked) (count_by (λ day. is_some (cell day)) asked) (count_by exceeding asked) (map (filter_map net) strata))
  quarter-keeps =
      let number = length-days quarter in
      let samples : sum_by length (map (filter_map net) strata) ≤ length (days_of_quarter quarter) = (let h = samples-days net strata in rw joined at h) in
      let exceeds_in : sum_by (count_by exceeds) (map (filter_map net) strata) ≡ count_by exceeding (days_of_quarter quarter)
      = exceedances-days exceeds net strata ∙ ap (count_by exceeding) joined in
      record {
        at_least = (quarter_days quarter).0;
        at_most = (quarter_days quarter).1;
        captured = count_by-le-length (λ day. is_some (cell day)) asked;
        scheduled = omega (arith, length-filter-le is_asked (days_of_quarter quarter), number);
        strata = strata-samples (map (filter_map net) strata);
        samples = omega (arith, samples, number);
        sampled = strata-none (map (filter_map net) strata);
        scheduled_exceedances = omega (arith, exceeds_in, count-filter exceeding is_asked (days_of_quarter quarter));
        exceedances = sum_by-le-sum_by (count_by exceeds) length (map (filter_map net) strata) (λ values. count_by-le-length exceeds values);
        captured_exceedances = count-implied exceeding (λ day. is_some (cell day)) (λ day. exceeding-sampled (cell day)) asked;
        sixtieths = sixtieths-few (map (filter_map net) strata);
      }
