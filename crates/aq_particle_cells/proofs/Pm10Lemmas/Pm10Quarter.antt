-- The PM10 quarter of the days and strata that are kept, by its tallies.
use Rattle.std.proofs.Common.{◌≡◌, ℕ, ◌+◌, ◌<◌, ◌≤◌, Bool, true, false, cond, ◌&&◌, List, [], ◌∷◌, length, map, refl, ap, sym, ◌∙◌, arith}
use Rattle.std.specs.Prelude.{◌==◌, ℤ, pos, Option, Some, None, is_some, option_map, option_and_then, count_by, filter, filter_map, sum_by, nat_le, flat_map}
use Rattle.std.specs.List.{range_with_len}
use Rattle.std.specs.Option.{option_map_or}
use Rattle.std.proofs.lemmas.Int.{ints}
use Rattle.std.proofs.lemmas.List.{length-map}
use Rattle.std.proofs.lemmas.List.Folds.{fold-map}
use Rattle.std.proofs.lemmas.List.FromFn.{length-range_with_len}
use Rattle.std.proofs.lemmas.List.Sums.{count_by-le-length, sum_by-cons}
use Rattle.aq_agg.proofs.ItemsOfDays.{few_items, same_items}
use Rattle.aq_agg.specs.StratumSums.{sixtieths, stratum_with}
use Rattle.aq_base.specs.Calendar.{days_in_quarter, quarter_first, quarter_number, quarter_of}
use Rattle.aq_base.specs.Site.{Site}
use Rattle.aq_base.specs.declared.day.TheConstants.{FIRST_YEAR, LAST_DAY}
use Rattle.aq_base.specs.declared.monitor.Pollutant.TheVariants.{Pm10}
use Rattle.aq_base.specs.declared.office.OfficeRecord.{OfficeRecord}
use Rattle.aq_cal.proofs.Within.{quarter_holds}
use Rattle.aq_rules.proofs.Cuts.{strata-joined}
use Rattle.aq_rules.proofs.Pm10Facts.{quarter_days}
use Rattle.aq_rules.specs.Kept.Summaries.{KeepsPm10Quarter}
use Rattle.aq_rules.specs.Lists.{latest, total}
use Rattle.aq_rules.specs.Office.Schedule.{is_scheduled}
use Rattle.aq_rules.specs.Ozone.SiteHour.{Cell}
use Rattle.aq_rules.specs.Particles.ParticleDay.{unless_excluded}
use Rattle.aq_rules.specs.Particles.Pm10Estimate.{Pm10Quarter, exceeds, sampled_strata, sixtieths_of}
use Rattle.aq_rules.specs.Particles.QuarterCounts.{days_of_quarter}
use Rattle.aq_rules.specs.Particles.Strata.{first_days, first_days_by, quarter_end, strata_from, strata_of, stratum_by}
use Rattle.aq_registry.specs.Registry.{office_with}
use Rattle.aq_particle_cells.specs.Days.KeptDays.{cell_at, sample_at, Days}
use Rattle.aq_particle_cells.specs.Pm10.Pm10Cells.{net_at, pm10_quarter_of_days, scheduled_sample, stratum_from, AreCountedBy, IsCountedBy, Pm10Kept}
use Rattle.aq_particle_cells.specs.Pm10.Pm10Tallies.{item_of}
use Rattle.aq_particle_cells.specs.Pm10.Strata.{days_of_stratum, is_in_stratum, stratum_at, stratum_of_samples}
use Rattle.aq_particle_cells.specs.Pm10.StrataTotals.{exceeding, sampled}
use Rattle.aq_particle_cells.proofs.DaysLemmas.ItemCounts.{count-both, items-number, items-total}
use Rattle.aq_particle_cells.proofs.Pm10Lemmas.Pm10Exchange.{captured_on}
use Rattle.aq_particle_cells.proofs.Pm10Lemmas.Pm10Keeps.{quarter-keeps}
use Rattle.aq_particle_cells.proofs.Pm10Lemmas.StratumDays.{days_in, filter-same, holder, kept_of, strata-kept}
use Rattle.aq_dirty.proofs.StratumStarts.{latest-is}
use Rattle.aq_particle_cells.proofs.DaysLemmas.YearDays.{year-of_part}

-- ---- the strata of a quarter of the profile, by its days

module _ (records : List OfficeRecord) (site : Site) (quarter : ℕ)
    (in_profile : quarter_first quarter + days_in_quarter quarter ≤ LAST_DAY + 1) where
  abbrev pub scheduled : ℕ → Bool
  scheduled = is_scheduled records site Pm10

  abbrev pub span : List ℕ
  span = range_with_len (quarter_first quarter) (days_in_quarter quarter)

  pub of-quarter : (day : ℕ) → quarter_first quarter ≤ day → day < quarter_first quarter + days_in_quarter quarter → quarter_of day ≡ quarter
  of-quarter day low high = let within : day ≤ LAST_DAY = omega (arith, high, in_profile) in (quarter_holds quarter day within).1 (low, high)

  -- the stratum that holds a day, by its first day
  pub stratum-is : (day : ℕ) → quarter_first quarter ≤ day → day < quarter_first quarter + days_in_quarter quarter
      → stratum_by records site day ≡ Some (holder scheduled (quarter_first quarter) (days_in_quarter quarter) (λ d. None) day)
  unfolding days_of_quarter
  stratum-is day low high =
      ap (λ q. latest (λ (f : ℕ). f) (filter (λ f. nat_le f day) (first_days_by records site q))) (of-quarter day low high)
      ∙ latest-is scheduled (quarter_first quarter) day (days_in_quarter quarter) low high

  pub days-of_stratum : (net : ℕ → Option ℤ) (first : ℕ) → quarter_first quarter ≤ first → first < quarter_first quarter + days_in_quarter quarter
      → days_of_stratum records site first ≡ days_in scheduled (quarter_first quarter) (days_in_quarter quarter) net first
  unfolding days_of_quarter
  days-of_stratum net first low high =
      ap (λ q. filter (is_in_stratum records site first) (days_of_quarter q)) (of-quarter first low high)
      ∙ filter-same (is_in_stratum records site first) (λ day. holder scheduled (quarter_first quarter) (days_in_quarter quarter) net day == first) (quarter_first quarter) (days_in_quarter quarter)
      (λ day from to. ap (λ (o : Option ℕ). option_map_or (λ start. start == first) o false) (stratum-is day from to))

-- ---- sums over strata

samples-sum : (strata : List (List ℤ)) → sum_by sampled (map stratum_with (sampled_strata strata)) ≡ sum_by length strata
samples-sum strata = fold-map (λ sum stratum. sum + sampled stratum) stratum_with 0 (sampled_strata strata) ∙ all strata
  where
    all : (strata : List (List ℤ)) → sum_by length (sampled_strata strata) ≡ sum_by length strata
    all [] = refl
    all ([] ∷ strata) = omega (arith, all strata, sum_by-cons length [] strata)
    all ((v ∷ values) ∷ strata) = omega (arith, all strata, sum_by-cons length (v ∷ values) strata, sum_by-cons length (v ∷ values) (sampled_strata strata))

exceedances-sum : (strata : List (List ℤ)) → sum_by exceeding (map stratum_with (sampled_strata strata)) ≡ sum_by (count_by exceeds) strata
exceedances-sum strata = fold-map (λ sum stratum. sum + exceeding stratum) stratum_with 0 (sampled_strata strata) ∙ all strata
  where
    all : (strata : List (List ℤ)) → sum_by (count_by exceeds) (sampled_strata strata) ≡ sum_by (count_by exceeds) strata
    all [] = refl
    all ([] ∷ strata) = omega (arith, all strata, sum_by-cons (count_by exceeds) [] strata)
    all ((v ∷ values) ∷ strata) = omega (arith, all strata, sum_by-cons (count_by exceeds) (v ∷ values) strata, sum_by-cons (count_by exceeds) (v ∷ values) (sampled_strata strata))

-- ---- the quarter

-- how many scheduled days have a sample that exceeds and is not excluded
abbrev pub exceeded_number : List OfficeRecord → Days → Site → ℕ → ℕ
exceeded_number records days site quarter =
    count_by (λ d. option_map_or exceeds (option_and_then unless_excluded (cell_at days site d)) false) (filter (is_scheduled records site Pm10) (range_with_len (quarter_first quarter) (days_in_quarter quarter)))

module _ (records : List OfficeRecord) (kept : Pm10Kept) (site : Site) (quarter : ℕ)
    (in_profile : quarter_first quarter + days_in_quarter quarter ≤ LAST_DAY + 1) where
  abbrev days : Days
  days = kept.days

  abbrev cell : ℕ → Option Cell
  cell = cell_at days site

  abbrev net : ℕ → Option ℤ
  net = net_at days site

  abbrev asked : ℕ → Bool
  asked = is_scheduled records site Pm10

  abbrev in_quarter : List ℕ
  in_quarter = range_with_len (quarter_first quarter) (days_in_quarter quarter)

  abbrev strata : List (List ℕ)
  strata = strata_from (quarter_end quarter) (first_days_by records site quarter)

  abbrev samples_of : List (List ℤ)
  samples_of = map (filter_map net) strata

  abbrev passes : Option Cell → Bool
  passes o = option_map_or exceeds (option_and_then unless_excluded o) false

  pub few-samples : length (filter_map (captured_on days site) in_quarter) ≤ 92
  few-samples =
      let most = (quarter_days quarter).1 in
      omega (arith, most, few_items (captured_on days site) in_quarter, length-range_with_len (quarter_first quarter) (days_in_quarter quarter))

  module _ (counted : IsCountedBy records kept site quarter) where
    sample-is : (k : ℕ) → quarter_first quarter ≤ k → k < quarter_first quarter + days_in_quarter quarter → captured_on days site k ≡ option_map item_of (cond (asked k) (cell k) None)
    unfolding sample_at scheduled_sample
    sample-is k low high =
        let within : k ≤ LAST_DAY = omega (arith, high, in_profile) in
        ap (option_map item_of) (counted.samples k within ((quarter_holds quarter k within).1 (low, high)))

    samples-are : filter_map (captured_on days site) in_quarter ≡ filter_map (λ k. option_map item_of (cond (asked k) (cell k) None)) in_quarter
    samples-are = same_items (captured_on days site) (λ k. option_map item_of (cond (asked k) (cell k) None)) (quarter_first quarter) (days_in_quarter quarter) sample-is

    -- of the days those that are asked for
    of-asked : (test : Option Cell → Bool) → test None ≡ false → (k : ℕ) → test (cond (asked k) (cell k) None) ≡ (asked k && test (cell k))
    of-asked test none k = by (asked k)
      where
        by : (b : Bool) → test (cond b (cell k) None) ≡ (b && test (cell k))
        by true = refl
        by false = none

    pub number-is : length (filter_map (captured_on days site) in_quarter) ≡ count_by (λ d. is_some (cell d)) (filter asked in_quarter)
    number-is =
        ap length samples-are ∙ items-number item_of (λ k. cond (asked k) (cell k) None) in_quarter
        ∙ (λ i. count_by (λ k. of-asked is_some refl k i) in_quarter) ∙ sym (count-both (λ k. is_some (cell k)) asked in_quarter)

    total-of : total (filter_map (captured_on days site) in_quarter) ≡ pos (count_by (λ k. passes (cond (asked k) (cell k) None)) in_quarter)
    total-of = ap total samples-are ∙ items-total item_of (λ k. cond (asked k) (cell k) None) passes refl (λ c. refl) in_quarter

    pub total-is : total (filter_map (captured_on days site) in_quarter) ≡ pos (exceeded_number records days site quarter)
    total-is = total-of ∙ ap pos ((λ i. count_by (λ k. of-asked passes refl k i) in_quarter) ∙ sym (count-both (λ k. passes (cell k)) asked in_quarter))

    pub total-few : (n : ℕ) → total (filter_map (captured_on days site) in_quarter) ≡ pos n → n ≤ 92
    total-few n is =
        let most = (quarter_days quarter).1 in
        omega (arith, ints, most, sym is ∙ total-of, count_by-le-length (λ k. passes (cond (asked k) (cell k) None)) in_quarter, length-range_with_len (quarter_first quarter) (days_in_quarter quarter))

    -- ---- strata

    stratum-of : (k : ℕ) → quarter_first quarter ≤ k → k < quarter_first quarter + days_in_quarter quarter
        → stratum_at kept.strata site k ≡ kept_of asked (quarter_first quarter) (days_in_quarter quarter) net k
    unfolding stratum_from
    stratum-of k low high =
        let within : k ≤ LAST_DAY = omega (arith, high, in_profile) in
        counted.strata k within ((quarter_holds quarter k within).1 (low, high))
        ∙ ap (λ (l : List ℕ). stratum_of_samples (filter_map net l)) (days-of_stratum records site quarter in_profile net k low high)

    pub strata-are : filter_map (stratum_at kept.strata site) in_quarter ≡ map stratum_with (sampled_strata samples_of)
    unfolding days_of_quarter
    strata-are =
        same_items (stratum_at kept.strata site) (kept_of asked (quarter_first quarter) (days_in_quarter quarter) net) (quarter_first quarter) (days_in_quarter quarter) stratum-of
        ∙ strata-kept asked (quarter_first quarter) (days_in_quarter quarter) net

    pub strata-number : length (filter_map (stratum_at kept.strata site) in_quarter) ≡ length (sampled_strata samples_of)
    strata-number = ap length strata-are ∙ length-map (sampled_strata samples_of) stratum_with

    pub strata-sixtieths : sum_by sixtieths (filter_map (stratum_at kept.strata site) in_quarter) ≡ sum_by sixtieths_of (sampled_strata samples_of)
    strata-sixtieths = ap (sum_by sixtieths) strata-are ∙ fold-map (λ sum stratum. sum + sixtieths stratum) stratum_with 0 (sampled_strata samples_of)

    pub strata-samples : sum_by sampled (filter_map (stratum_at kept.strata site) in_quarter) ≡ sum_by length samples_of
    strata-samples = ap (sum_by sampled) strata-are ∙ samples-sum samples_of

    pub strata-exceedances : sum_by exceeding (filter_map (stratum_at kept.strata site) in_quarter) ≡ sum_by (count_by exceeds) samples_of
    strata-exceedances = ap (sum_by exceeding) strata-are ∙ exceedances-sum samples_of

    pub quarter-is : (d s c n a e x t : ℕ)
        → d ≡ days_in_quarter quarter
        → s ≡ length (filter asked (days_of_quarter quarter))
        → c ≡ length (filter_map (captured_on days site) in_quarter)
        → n ≡ length (filter_map (stratum_at kept.strata site) in_quarter)
        → a ≡ sum_by sampled (filter_map (stratum_at kept.strata site) in_quarter)
        → e ≡ sum_by exceeding (filter_map (stratum_at kept.strata site) in_quarter)
        → pos x ≡ total (filter_map (captured_on days site) in_quarter)
        → t ≡ sum_by sixtieths (filter_map (stratum_at kept.strata site) in_quarter)
        → (let q : Pm10Quarter = record { calendar_days = d; scheduled = s; captured = c; strata = n; samples = a; exceedances = e; scheduled_exceedances = x; sixtieths = t } in q)
        ≡ pm10_quarter_of_days records days site quarter
    unfolding pm10_quarter_of_days days_of_quarter
    quarter-is d s c n a e x t di si ci ni ai ei xi ti =
        let exceeded : x ≡ count_by (λ d. passes (cell d)) (filter asked in_quarter) = omega (arith, ints, xi ∙ total-is) in
        λ i. record {
          calendar_days = di i;
          scheduled = si i;
          captured = (ci ∙ number-is) i;
          strata = (ni ∙ strata-number) i;
          samples = (ai ∙ strata-samples) i;
          exceedances = (ei ∙ strata-exceedances) i;
          scheduled_exceedances = exceeded i;
          sixtieths = (ti ∙ strata-sixtieths) i;
        }

  strata-are_all : flat_map (λ (d : List ℕ). d) strata ≡ days_of_quarter quarter
  unfolding strata_of first_days
  strata-are_all = strata-joined (office_with records) site quarter

  pub quarter_of-keeps : KeepsPm10Quarter (pm10_quarter_of_days records days site quarter)
  unfolding pm10_quarter_of_days
  quarter_of-keeps = quarter-keeps asked cell quarter strata strata-are_all

-- each quarter of a year
pub part-counted : (records : List OfficeRecord) (kept : Pm10Kept) (site : Site) (year : ℕ) → FIRST_YEAR ≤ year → (quarter part : ℕ) → part < 4 → quarter ≡ quarter_number year part
    → AreCountedBy records kept site year → IsCountedBy records kept site quarter
part-counted records kept site year low quarter part few is counted = record {
  samples = λ day within its. counted.samples day within (year-of_part year part day low few within (its ∙ is));
  strata = λ first within its. counted.strata first within (year-of_part year part first low few within (its ∙ is));
}
