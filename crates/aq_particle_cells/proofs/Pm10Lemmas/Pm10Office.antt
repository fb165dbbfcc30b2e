-- PM10 cells that are an office's: the years that they give, and those that a change does not reach.
use Rattle.std.proofs.Common.{◌≡◌, ℕ, zero, suc, ◌+◌, ◌<◌, ◌≤◌, Bool, true, false, cond, ◌∷◌, map, refl, ap, sym, ◌∙◌, arith}
use Rattle.std.specs.Prelude.{◌==◌, nat_le, Option, Some, None, option_and_then, filter, filter_map}
use Rattle.std.specs.List.{cons_option, range_with_len}
use Rattle.std.specs.Option.{option_map_or}
use Rattle.std.proofs.lemmas.Bool.{false≢true}
use Rattle.std.proofs.lemmas.Bool.Decides.{nat_tests}
use Rattle.aq_base.specs.Calendar.{days_in_quarter, quarter_first, quarter_of}
use Rattle.aq_base.specs.Site.{Site}
use Rattle.aq_base.specs.declared.day.TheConstants.{LAST_DAY}
use Rattle.aq_base.specs.declared.monitor.Pollutant.TheVariants.{Ozone, Pm25, Pm10}
use Rattle.aq_rules.proofs.CellsOnce.{member}
use Rattle.aq_rules.specs.Kept.Cells.{CellName, HourCell, WindowCell, OzoneDayCell, OzoneYearCell, PmDayCell, StratumCell, QuarterCell, PmYearCell}
use Rattle.aq_rules.specs.Kept.Reach.{reach}
use Rattle.aq_rules.specs.Office.Office.{IsOffice, Office}
use Rattle.aq_rules.specs.Particles.ParticleDay.{net_day, site_day, unless_excluded}
use Rattle.aq_rules.specs.Particles.Pm10Estimate.{pm10_quarter, pm10_year}
use Rattle.aq_rules.specs.Particles.QuarterCounts.{days_of_quarter, quarters_of}
use Rattle.aq_rules.specs.Particles.Strata.{first_days, strata_of, stratum_by}
use Rattle.aq_dirty.proofs.OutOfReachLemmas.DaysOfQuarters.{in-quarter, quarter_of-is_year}
use Rattle.aq_dirty.proofs.OutOfReachLemmas.PmDays.{pm_day-out_of_reach}
use Rattle.aq_dirty.proofs.OutOfReachLemmas.PmQuarters.{schedule-same}
use Rattle.aq_dirty.proofs.OutOfReachLemmas.StrataReached.{holds-back, holds-onto, stratum_day-out_of_reach}
use Rattle.aq_particle_cells.specs.Days.KeptDays.{cell_at}
use Rattle.aq_particle_cells.specs.Pm10.Pm10Cells.{pm10_quarter_by, pm10_quarter_of_days, pm10_year_of_days, scheduled_sample, stratum_from, AreCountedBy, Pm10Kept}
use Rattle.aq_particle_cells.specs.Pm10.Pm10Levels.{office_stratum, AreKept, CountsAs, HasStratumOf, HasValueOf, IsCellOf}
use Rattle.aq_particle_cells.specs.Pm10.Strata.{days_of_stratum, is_in_stratum, stratum_of_samples}
use Rattle.aq_particle_cells.proofs.DaysLemmas.Unobserved.{past-profile}

-- ---- years

module _ (office : Office) (kept : Pm10Kept) (site : Site) (year : ℕ) (all : AreKept office kept) where
  stratum-is : (first : ℕ) → office_stratum office site first ≡ stratum_from office.records kept.days site first
  unfolding AreKept office_stratum stratum_from
  stratum-is first = λ i. stratum_of_samples (filter_map (λ day. option_and_then unless_excluded (sym (all site day).value i)) (days_of_stratum office.records site first))

  pub are-counted : AreCountedBy office.records kept site year
  unfolding AreKept
  are-counted = record {
    samples = λ day within its. (all site day).counts within;
    strata = λ first within its. (all site first).stratum within ∙ stratum-is first;
  }

  pub year-is : pm10_year_of_days office.records kept.days site year ≡ pm10_year office site year
  unfolding AreKept pm10_year_of_days pm10_quarter_of_days pm10_year pm10_quarter strata_of first_days
  year-is = λ i. map (pm10_quarter_by office.records site (λ day. (all site day).value i)) (quarters_of year)

-- ---- what is not reached

module _ (old new : Office) (valid : IsOffice old) (after : IsOffice new) (kept : Pm10Kept) (all : AreKept old kept) where
  value-unreached : (site : Site) (day : ℕ) → member (PmDayCell site Pm10 day) (reach old new) ≡ false → HasValueOf new kept site day
  unfolding AreKept
  value-unreached site day out = (all site day).value ∙ by (nat_le day LAST_DAY) refl
    where
      by : (b : Bool) → nat_le day LAST_DAY ≡ b → site_day old site Pm10 day ≡ site_day new site Pm10 day
      by true inside = let within : day ≤ LAST_DAY = grind (arith, nat_tests, inside) in pm_day-out_of_reach old new site day within valid after Pm10 out
      by false outside =
          let past : LAST_DAY < day = grind (arith, nat_tests, outside) in
          past-profile old site Pm10 day valid past ∙ sym (past-profile new site Pm10 day after past)

  counts-unreached : (site : Site) (quarter : ℕ) → member (QuarterCell site Pm10 quarter) (reach old new) ≡ false → (day : ℕ) → day ≤ LAST_DAY → quarter_of day ≡ quarter → CountsAs new kept site day
  unfolding AreKept scheduled_sample
  counts-unreached site quarter out day within its =
      (all site day).counts within
      ∙ ap (λ b. cond b (cell_at kept.days site day) None) (schedule-same old new site quarter valid after Pm10 out day (record { is_of = its; in_profile = within }))

  -- ---- a stratum

  module _ (site : Site) (first : ℕ) (within : first ≤ LAST_DAY) (out : member (StratumCell site first) (reach old new) ≡ false) where
    quarter : ℕ
    quarter = quarter_of first

    -- a day lies in it by the records of one office if it does by those of the other
    test-same : (day : ℕ) → day ≤ LAST_DAY → is_in_stratum old.records site first day ≡ is_in_stratum new.records site first day
    test-same day inside = by (stratum_by old.records site day) (stratum_by new.records site day) refl refl
      where
        tests : (m n : ℕ) → (m ≡ first → n ≡ first) → (n ≡ first → m ≡ first) → (m == first) ≡ (n == first)
        tests m n onto back =
            elim (m == first) as (λ b. (m == first) ≡ b → b ≡ (n == first)) [
              | true ↦ λ is. let e : m ≡ first = grind (arith, nat_tests, is) in let h = onto e in grind (arith, nat_tests, h)
              | false ↦ λ is. elim (n == first) as (λ b. (n == first) ≡ b → false ≡ b) [
                | true ↦ λ on. let e : n ≡ first = grind (arith, nat_tests, on) in let h = back e in grind (arith, nat_tests, h, is)
                | false ↦ λ off. refl
              ] refl
            ] refl

        by : (a b : Option ℕ) → stratum_by old.records site day ≡ a → stratum_by new.records site day ≡ b → option_map_or (λ s. s == first) a false ≡ option_map_or (λ s. s == first) b false
        by None None ai bi = refl
        by None (Some n) ai bi =
            elim (n == first) as (λ c. (n == first) ≡ c → false ≡ c) [
              | true ↦ λ on.
                  let e : n ≡ first = grind (arith, nat_tests, on) in
                  let back = holds-back old new site first valid after out day inside (bi ∙ ap (λ k. Some k) e) in
                  cc
              | false ↦ λ off. refl
            ] refl
        by (Some m) None ai bi =
            elim (m == first) as (λ c. (m == first) ≡ c → c ≡ false) [
              | true ↦ λ on.
                  let e : m ≡ first = grind (arith, nat_tests, on) in
                  let onto = holds-onto old new site first valid after out day inside (ai ∙ ap (λ k. Some k) e) in
                  cc
              | false ↦ λ off. refl
            ] refl
        by (Some m) (Some n) ai bi =
            tests m n
            (λ e. let onto = holds-onto old new site first valid after out day inside (ai ∙ ap (λ k. Some k) e) in cc)
            (λ e. let back = holds-back old new site first valid after out day inside (bi ∙ ap (λ k. Some k) e) in cc)

    -- the samples of its days
    samples-same : (a n : ℕ) → ((day : ℕ) → a ≤ day → day < a + n → day ≤ LAST_DAY)
        → filter_map (net_day old site Pm10) (filter (is_in_stratum old.records site first) (range_with_len a n))
        ≡ filter_map (net_day new site Pm10) (filter (is_in_stratum new.records site first) (range_with_len a n))
    samples-same a zero inside = refl
    samples-same a (suc n) inside =
        by (is_in_stratum old.records site first a) refl (samples-same (a + 1) n (λ day low high. inside day (omega (arith, low)) (omega (arith, high))))
        ∙ ap (λ b. filter_map (net_day new site Pm10) (cond b (a ∷ filter (is_in_stratum new.records site first) (range_with_len (a + 1) n)) (filter (is_in_stratum new.records site first) (range_with_len (a + 1) n)))) (test-same a here)
      where
        here : a ≤ LAST_DAY
        here = inside a (omega arith) (omega arith)

        held : (o : Option ℕ) → option_map_or (λ s. s == first) o false ≡ true → o ≡ Some first
        held None is = absurd (false≢true is)
        held (Some s) is = let e : s ≡ first = grind (arith, nat_tests, is) in ap (λ k. Some k) e

        by : (b : Bool) → is_in_stratum old.records site first a ≡ b
            → filter_map (net_day old site Pm10) (filter (is_in_stratum old.records site first) (range_with_len (a + 1) n))
            ≡ filter_map (net_day new site Pm10) (filter (is_in_stratum new.records site first) (range_with_len (a + 1) n))
            → filter_map (net_day old site Pm10) (cond b (a ∷ filter (is_in_stratum old.records site first) (range_with_len (a + 1) n)) (filter (is_in_stratum old.records site first) (range_with_len (a + 1) n)))
            ≡ filter_map (net_day new site Pm10) (cond b (a ∷ filter (is_in_stratum new.records site first) (range_with_len (a + 1) n)) (filter (is_in_stratum new.records site first) (range_with_len (a + 1) n)))
        by false is rest = rest
        by true is rest =
            let value = stratum_day-out_of_reach old new site first valid after out a here (held (stratum_by old.records site a) is) in
            λ i. cons_option (option_and_then unless_excluded (value i)) (rest i)

    stratum-same : office_stratum old site first ≡ office_stratum new site first
    unfolding office_stratum days_of_quarter
    stratum-same =
        ap stratum_of_samples
        (samples-same (quarter_first (quarter_of first)) (days_in_quarter (quarter_of first))
        (λ day low high. (in-quarter (quarter_of first) day (quarter_of-is_year first within) low high).in_profile))

  stratum-unreached : (site : Site) (first : ℕ) → member (StratumCell site first) (reach old new) ≡ false → first ≤ LAST_DAY → HasStratumOf new kept site first
  unfolding AreKept
  stratum-unreached site first out within = (all site first).stratum within ∙ stratum-same site first within out

  pub unreached : (cell : CellName) → member cell (reach old new) ≡ false → IsCellOf new kept cell
  unfolding IsCellOf
  unreached (HourCell site hour) out = tt
  unreached (WindowCell site start) out = tt
  unreached (OzoneDayCell site day) out = tt
  unreached (OzoneYearCell site year) out = tt
  unreached (PmDayCell site Pm10 day) out = value-unreached site day out
  unreached (PmDayCell site Pm25 day) out = tt
  unreached (PmDayCell site Ozone day) out = tt
  unreached (StratumCell site first) out = stratum-unreached site first out
  unreached (QuarterCell site Pm10 number) out = counts-unreached site number out
  unreached (QuarterCell site Pm25 number) out = tt
  unreached (QuarterCell site Ozone number) out = tt
  unreached (PmYearCell site year) out = tt
