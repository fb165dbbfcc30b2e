-- The tally of a quarter's days is the quarter.
use Rattle.std.proofs.Common.{◌≡◌, ℕ, zero, suc, ◌+◌, ◌≤◌, Bool, true, false, ◌||◌, ◌&&◌, ◌==◌, cond, List, [], ◌∷◌, ◌++◌, length, map, refl, ap, sym, subst, ◌∙◌, arith}
use Rattle.std.specs.Prelude.{ℤ, Option, fold, sum}
use Rattle.std.specs.List.{count_by, filter, filter_map, range_with_len}
use Rattle.std.proofs.lemmas.List.FromFn.{length-map-range_with_len, map-range_with_len_more}
use Rattle.std.proofs.lemmas.List.Sums.{count_by-le-length, sum_by-cons, sum-map, length-filter}
use Rattle.std.proofs.lemmas.Simd.{map-map}
use Rattle.aq_base.specs.Calendar.{quarter_first, days_in_quarter}
use Rattle.aq_base.specs.Site.{Site}
use Rattle.aq_base.specs.declared.monitor.Pollutant.TheVariants.{Pm10}
use Rattle.aq_rules.specs.Office.Office.{Office}
use Rattle.aq_rules.specs.Office.Schedule.{is_scheduled}
use Rattle.aq_rules.specs.Particles.ParticleDay.{net_day}
use Rattle.aq_rules.specs.Particles.QuarterCounts.{days_of_quarter, is_sampled}
use Rattle.aq_rules.specs.Particles.Strata.{first_days, first_days_after, first_days_among, strata_from, strata_of}
use Rattle.aq_rules.specs.Particles.Pm10Estimate.{Pm10Quarter, is_exceedance, pm10_quarter, quarter_of_strata}
use Rattle.aq_particles.specs.declared.pm10.site_quarter.DayOfQuarter.{DayOfQuarter}
use Rattle.aq_particles.specs.declared.pm10.site_quarter.QuarterTally.{QuarterTally}
use Rattle.aq_particles.specs.declared.pm10.strata.Totals.{Totals}
use Rattle.aq_particles.specs.Pm10.StrataSoFar.{AreStrataOf, AreTotalsOf, StrataCut, all_ended, with_sample}
use Rattle.aq_particles.specs.Pm10.QuarterDays.{cut_of, day_in, exceeds_as_scheduled, is_captured, with_one, IsTallyOf}
use Rattle.aq_particles.proofs.Pm10Lemmas.CutLemmas.{rest_cut, one_or_none}

-- ---- counts

count_map : {X Y : Type 0} (p : Y → Bool) (f : X → Y) (list : List X) → count_by p (map f list) ≡ count_by (λ x. p (f x)) list
count_map {X} {Y} p f list =
    sym (sum-map (λ (y : Y). cond (p y) 1 0) (map f list)) ∙ ap sum (map-map (λ (y : Y). cond (p y) 1 0) f list) ∙ sum-map (λ (x : X). cond (p (f x)) 1 0) list

count_filter : {X : Type 0} (p q : X → Bool) (list : List X) → count_by (λ x. p x && q x) list ≡ count_by q (filter p list)
count_filter p q [] = refl
count_filter {X} p q (x ∷ list) =
    let rest = count_filter p q list in
    sum_by-cons (λ (y : X). cond (p y && q y) 1 0) x list
    ∙ elim (p x) as (λ b. cond (b && q x) 1 0 + count_by (λ y. p y && q y) list ≡ count_by q (cond b (x ∷ filter p list) (filter p list))) [
      | true ↦ ap (λ (n : ℕ). cond (q x) 1 0 + n) rest ∙ sym (sum_by-cons (λ (y : X). cond (q y) 1 0) x (filter p list))
      | false ↦ omega (arith, rest)
    ]

-- ---- the quarter

-- a stratum without a day gives nothing
empty_first : (days scheduled captured exceeding : ℕ) (strata : List (List ℤ)) → quarter_of_strata days scheduled captured exceeding ([] ∷ strata) ≡ quarter_of_strata days scheduled captured exceeding strata
empty_first days scheduled captured exceeding strata = refl

module _ (office : Office) (site : Site) (first : ℕ) where
  abbrev pub days : ℕ → List DayOfQuarter
  days count = map (day_in office site) (range_with_len first count)

  module _ (all scheduled captured exceeding : ℕ) where
    abbrev with_strata : List (List ℤ) → Pm10Quarter
    with_strata = quarter_of_strata all scheduled captured exceeding

    strata_are : (count : ℕ) → with_strata (all_ended (cut_of first (days count))) ≡ with_strata (map (filter_map (net_day office site Pm10)) (strata_from (first + count) (first_days_among (is_scheduled office.records site Pm10) (range_with_len first count))))
    strata_are zero = refl
    strata_are (suc count) =
        let f : ℕ → Bool = is_scheduled office.records site Pm10 in
        let sample : ℕ → Option ℤ = net_day office site Pm10 in
        let begun : StrataCut = record { ended = [] ∷ []; first = first; samples = with_sample (sample first) [] } in
        let going_on : StrataCut = record { ended = []; first = first; samples = with_sample (sample first) [] } in
        let rest : List ℕ = range_with_len (first + 1) count in
        let all_days : List DayOfQuarter = map (day_in office site) rest in
        let strata : ℕ → List (List ℤ) = λ end. map (filter_map sample) (strata_from end (first ∷ first_days_after f first rest)) in
        let end : first + 1 + count ≡ first + suc count = omega arith in
        let by : (b : Bool) → with_strata (all_ended (fold with_one (cond b begun going_on) all_days)) ≡ with_strata (strata (first + suc count)) =
        elim [
          | true ↦ ap with_strata (rest_cut sample f (day_in office site) (λ d cut. refl) count 1 (first + 1) begun refl (sym (one_or_none (sample first)))) ∙ ap (λ (m : ℕ). with_strata (strata m)) end
          | false ↦ ap with_strata (rest_cut sample f (day_in office site) (λ d cut. refl) count 1 (first + 1) going_on refl (sym (one_or_none (sample first)))) ∙ ap (λ (m : ℕ). with_strata (strata m)) end
        ]
        in
        by (f first || (first == first + 6))

-- what is known of a quarter's tally at its end
pub record EndsQuarter (office : Office) (site : Site) (quarter first count : ℕ) (tally : QuarterTally) (totals : Totals) : Type 0 where
  pub first_day : first ≡ quarter_first quarter
  pub all_days : count ≡ days_in_quarter quarter
  pub tally_is : IsTallyOf first (days office site first count) tally
  pub totals_are : AreTotalsOf (all_ended (cut_of first (days office site first count))) totals

module _ (office : Office) (site : Site) (quarter first count : ℕ) (tally : QuarterTally) (totals : Totals) (ends : EndsQuarter office site quarter first count tally totals) where
  scheduled_are : (n a : ℕ) → count_by (λ (day : DayOfQuarter). day.is_scheduled) (days office site a n) ≡ length (filter (is_scheduled office.records site Pm10) (range_with_len a n))
  scheduled_are n a = count_map (λ (day : DayOfQuarter). day.is_scheduled) (day_in office site) (range_with_len a n) ∙ sym (length-filter (is_scheduled office.records site Pm10) (range_with_len a n))

  captured_are : (n a : ℕ) → count_by is_captured (days office site a n) ≡ count_by (is_sampled office site Pm10) (filter (is_scheduled office.records site Pm10) (range_with_len a n))
  captured_are n a = count_map is_captured (day_in office site) (range_with_len a n) ∙ count_filter (is_scheduled office.records site Pm10) (is_sampled office site Pm10) (range_with_len a n)

  exceeding_are : (n a : ℕ) → count_by exceeds_as_scheduled (days office site a n) ≡ count_by (is_exceedance office site) (filter (is_scheduled office.records site Pm10) (range_with_len a n))
  exceeding_are n a = count_map exceeds_as_scheduled (day_in office site) (range_with_len a n) ∙ count_filter (is_scheduled office.records site Pm10) (is_exceedance office site) (range_with_len a n)

  abbrev pub quarter_kept : Pm10Quarter
  quarter_kept = record { calendar_days = count; scheduled = tally.scheduled; captured = tally.captured; strata = totals.strata; samples = totals.samples; exceedances = totals.exceedances; scheduled_exceedances = tally.scheduled_exceedances; sixtieths = totals.sixtieths }

  counted : quarter_kept ≡ quarter_of_strata count tally.scheduled tally.captured tally.scheduled_exceedances (all_ended (cut_of first (days office site first count)))
  counted = λ i. record { calendar_days = count; scheduled = tally.scheduled; captured = tally.captured; strata = ends.totals_are.strata_with_samples i; samples = ends.totals_are.samples i; exceedances = ends.totals_are.exceedances i; scheduled_exceedances = tally.scheduled_exceedances; sixtieths = ends.totals_are.sixtieths i }

  abbrev pub quarter_by : ℕ → ℕ → Pm10Quarter
  quarter_by a n =
      let scheduled : List ℕ = filter (is_scheduled office.records site Pm10) (range_with_len a n) in
      quarter_of_strata n (length scheduled) (count_by (is_sampled office site Pm10) scheduled) (count_by (is_exceedance office site) scheduled)
      (map (filter_map (net_day office site Pm10)) (strata_from (a + n) (first_days_among (is_scheduled office.records site Pm10) (range_with_len a n))))

  by_days : quarter_kept ≡ quarter_by first count
  by_days =
      counted
      ∙ strata_are office site first count tally.scheduled tally.captured tally.scheduled_exceedances count
      ∙ (λ i. quarter_of_strata count ((ends.tally_is.scheduled ∙ scheduled_are count first) i) ((ends.tally_is.captured ∙ captured_are count first) i) ((ends.tally_is.exceedances ∙ exceeding_are count first) i)
      (map (filter_map (net_day office site Pm10)) (strata_from (first + count) (first_days_among (is_scheduled office.records site Pm10) (range_with_len first count)))))

  quarter_by_its_days : quarter_by (quarter_first quarter) (days_in_quarter quarter) ≡ pm10_quarter office site quarter
  unfolding pm10_quarter strata_of first_days days_of_quarter
  quarter_by_its_days = refl

  pub quarter_is : quarter_kept ≡ pm10_quarter office site quarter
  quarter_is = by_days ∙ (λ i. quarter_by (ends.first_day i) (ends.all_days i)) ∙ quarter_by_its_days

-- ---- one more day, and no more than the days

pub days-more : (office : Office) (site : Site) (first count number : ℕ) (day : DayOfQuarter) → first + count ≡ number → day ≡ day_in office site number → days office site first count ++ day ∷ [] ≡ days office site first (count + 1)
days-more office site first count number day at is =
    ap (λ (d : DayOfQuarter). days office site first count ++ d ∷ []) is ∙ sym (map-range_with_len_more (day_in office site) first count number at)

pub record AreFew (count : ℕ) (tally : QuarterTally) : Type 0 where
  pub scheduled : tally.scheduled ≤ count
  pub captured : tally.captured ≤ count
  pub exceedances : tally.scheduled_exceedances ≤ count

pub few : (office : Office) (site : Site) (first count : ℕ) (tally : QuarterTally) → IsTallyOf first (days office site first count) tally → AreFew count tally
few office site first count tally is =
    let all : List DayOfQuarter = days office site first count in
    let many : length all ≡ count = length-map-range_with_len (day_in office site) first count in
    record {
      scheduled = omega (arith, is.scheduled, many, count_by-le-length (λ (day : DayOfQuarter). day.is_scheduled) all);
      captured = omega (arith, is.captured, many, count_by-le-length is_captured all);
      exceedances = omega (arith, is.exceedances, many, count_by-le-length exceeds_as_scheduled all);
    }

-- ---- the end

pub ends-quarter : (office : Office) (site : Site) (quarter first count all : ℕ) (tally : QuarterTally) (totals : Totals) → first ≡ quarter_first quarter → all ≡ days_in_quarter quarter → count ≡ all
    → IsTallyOf first (days office site first count) tally → ((cut : StrataCut) → AreStrataOf cut tally.strata → AreTotalsOf (all_ended cut) totals) → EndsQuarter office site quarter first all tally totals
ends-quarter office site quarter first count all tally totals from many end is ended =
    let tally_is : IsTallyOf first (days office site first all) tally = subst (λ (n : ℕ). IsTallyOf first (days office site first n) tally) end is in
    record {
      first_day = from;
      all_days = many;
      tally_is = tally_is;
      totals_are = ended (cut_of first (days office site first all)) tally_is.strata;
    }
