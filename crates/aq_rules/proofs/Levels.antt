-- What verdicts say of the design value and the level.
use Rattle.std.proofs.Common.{◌≡◌, ℕ, ◌+◌, ◌-◌, ◌≤◌, Bool, true, false, ◌&&◌, ◌||◌, cond, List, [], ◌∷◌, ◌++◌, map, Some, None, Option, zero, suc, refl, ap, ◌∙◌, arith}
use Rattle.std.specs.Prelude.{ℤ, pos, ◌≤ℤ◌, nat_le, int_lt, int_le, sum_by}
use Rattle.std.specs.List.{list_all}
use Rattle.std.proofs.lemmas.Int.{ints}
use Rattle.std.proofs.lemmas.Bool.{false≢true}
use Rattle.std.proofs.lemmas.Bool.Decides.{nat_tests}
use Rattle.std.proofs.lemmas.List.Sums.{sum_by-cons, count_by-le-length}
use Rattle.aq_base.specs.Site.{Site}
use Rattle.aq_base.specs.declared.monitor.Pollutant.TheVariants.{Pm25}
use Rattle.aq_base.specs.declared.standard.Standard.{Standard}
use Rattle.aq_base.specs.declared.standard.Standard.TheVariants.{Ozone2015, Annual2012, AnnualSecondary, Annual2024, Daily2006, Pm10Of1987}
use Rattle.aq_base.specs.declared.standard.Verdict.TheVariants.{Met, NotMet, Incomplete}
use Rattle.aq_rules.specs.Standards.{level_of, years_to, is_above, is_at_or_below}
use Rattle.aq_rules.specs.DesignValues.{design_value, value_in, verdict_in, pm10_years}
use Rattle.aq_rules.specs.Office.Office.{Office}
use Rattle.aq_rules.specs.Ozone.OzoneYear.{ozone_year}
use Rattle.aq_rules.specs.Ozone.OzoneVerdict.{ozone_verdict, ozone_design, is_complete, three_years}
use Rattle.aq_rules.specs.Particles.ParticleDay.{site_day}
use Rattle.aq_rules.specs.Particles.QuarterCounts.{Makeup, QuarterCounts, QuarterDays, is_sampled, is_kept, scheduled_days, credits, quarter_counts, pm25_quarter, pm25_year, quarters_of, counted_in, values_in}
use Rattle.aq_rules.specs.Particles.Percentile.{percentile, daily_value}
use Rattle.aq_rules.specs.Particles.YearParts.{of_values}
use Rattle.aq_rules.specs.Particles.AnnualVerdict.{annual_verdict, annual_design, are_all, is_captured, counts_in}
use Rattle.aq_rules.specs.Particles.DailyVerdict.{daily_verdict, daily_design, daily_value_of, daily_test, is_daily_year, percentile_of, filled_percentile, value_of_three, rounded}
use Rattle.aq_rules.specs.Particles.Pm10Verdict.{pm10_verdict, pm10_design, is_complete_year, is_unambiguous}
use Rattle.aq_rules.proofs.Pm10Facts.{count-implied}
use Rattle.aq_rules.proofs.Pm25Counts.{kept-sampled}

below : (level v : ℤ) → int_lt level v ≡ false → int_le v level ≡ true
below level v h = grind (arith, ints)

-- ---- Met

ozone-met : (value : Option ℤ) (complete : Bool) → ozone_verdict value complete ≡ Met → is_at_or_below (level_of Ozone2015) value ≡ true
ozone-met None complete h = cc
ozone-met (Some v) complete h = by_test (int_lt (level_of Ozone2015) v) refl h
  where
    by_test : (b : Bool) → int_lt (level_of Ozone2015) v ≡ b → cond b NotMet (cond complete Met Incomplete) ≡ Met → int_le v (level_of Ozone2015) ≡ true
    by_test true e h = cc
    by_test false e h = below (level_of Ozone2015) v e

annual-met : (level : ℤ) (value : Option ℤ) (valid : List Bool) (test : Option ℤ) → annual_verdict level value valid test ≡ Met → is_at_or_below level value ≡ true
annual-met level None valid test h = cc
annual-met level (Some v) valid test h = by_tests (int_lt level v) (are_all valid || is_above level test) refl h
  where
    by_tests : (b c : Bool) → int_lt level v ≡ b → cond b (cond c NotMet Incomplete) (cond (are_all valid || is_at_or_below level test) Met Incomplete) ≡ Met → int_le v level ≡ true
    by_tests true true e h = cc
    by_tests true false e h = cc
    by_tests false c e h = below level v e

pm10-met : (value : Option ℤ) (complete unambiguous : Bool) → pm10_verdict value complete unambiguous ≡ Met → is_at_or_below (level_of Pm10Of1987) value ≡ true
pm10-met None complete true h = cc
pm10-met None complete false h = cc
pm10-met (Some v) false true h = cc
pm10-met (Some v) false false h = cc
pm10-met (Some v) true unambiguous h = by_test (int_le v (level_of Pm10Of1987)) h
  where
    by_test : (b : Bool) → cond b Met NotMet ≡ Met → b ≡ true
    by_test true h = refl
    by_test false h = cc

-- ---- PM2.5 of 24 hours: a year with a percentile is valid if the value is above the level, since it has a creditable sample

counted-creditable : (office : Office) (site : Site) (quarter : ℕ) → (quarter_counts office site quarter).counted ≤ (quarter_counts office site quarter).creditable
unfolding quarter_counts
counted-creditable office site quarter =
    let implied = count-implied (is_kept office site Pm25) (is_sampled office site Pm25) (λ d h. kept-sampled (site_day office site Pm25 d) h) (scheduled_days office site Pm25 quarter) in
    let those = count_by-le-length (λ (m : Makeup). is_kept office site Pm25 m.makeup) (credits office site quarter) in
    omega (arith, implied, those)

abbrev creditable_in : List QuarterDays → ℕ
creditable_in quarters = sum_by (λ (counts : QuarterCounts). counts.creditable) (map (λ (q : QuarterDays). q.counts) quarters)

counted-in : (office : Office) (site : Site) (quarters : List ℕ) → counted_in (map (pm25_quarter office site) quarters) ≤ creditable_in (map (pm25_quarter office site) quarters)
counted-in office site [] = omega arith
counted-in office site (quarter ∷ quarters) =
    let first = pm25_quarter office site quarter in
    let others = map (pm25_quarter office site) quarters in
    omega (
      arith,
      counted-creditable office site quarter,
      counted-in office site quarters,
      sum_by-cons (λ (q : QuarterDays). q.counts.counted) first others,
      sum_by-cons (λ (counts : QuarterCounts). counts.creditable) first.counts (map (λ (q : QuarterDays). q.counts) others),
    )

some-counted : (values : List ℤ) (counted : ℕ) (p : ℤ) → percentile values counted ≡ Some p → 1 ≤ counted
some-counted values zero p h = cc
some-counted values (suc n) p h = omega arith

year-valid : (office : Office) (site : Site) (year : ℕ) (v p : ℤ) → percentile_of of_values (pm25_year office site year) ≡ Some p → int_lt (level_of Daily2006) v ≡ true
    → is_daily_year (Some v) (percentile_of of_values (pm25_year office site year)) (counts_in of_values (pm25_year office site year)) ≡ true
unfolding pm25_year
year-valid office site year v p h above =
    let quarters = map (pm25_quarter office site) (quarters_of year) in
    let some = some-counted (values_in quarters ++ []) (counted_in quarters + 0) p h in
    let most = counted-in office site (quarters_of year) in
    let one : nat_le 1 (creditable_in quarters) ≡ true = grind (arith, nat_tests, some, most) in
    by_tests (is_captured (counts_in of_values quarters)) (nat_le 1 (creditable_in quarters)) (is_above (level_of Daily2006) (rounded (percentile_of of_values quarters))) (int_lt (level_of Daily2006) v) one above
  where
    by_tests : (a b c d : Bool) → b ≡ true → d ≡ true → (a || (b && (c || d))) ≡ true
    by_tests true b c d e f = refl
    by_tests false true true d e f = refl
    by_tests false true false true e f = refl
    by_tests false true false false e f = cc
    by_tests false false c d e f = cc

-- three percentiles that have a mean
record AreThere (x y z : Option ℤ) : Type 0 where
  a : ℤ
  b : ℤ
  c : ℤ
  first : x ≡ Some a
  second : y ≡ Some b
  third : z ≡ Some c

are-there : (x y z : Option ℤ) (v : ℤ) → daily_value x y z ≡ Some v → AreThere x y z
are-there (Some a) (Some b) (Some c) v h = record { a = a; b = b; c = c; first = refl; second = refl; third = refl }
are-there None y z v h = cc
are-there (Some a) None z v h = cc
are-there (Some a) (Some b) None v h = cc

module _ (office : Office) (site : Site) (year : ℕ) where
  abbrev years : List (List QuarterDays)
  years = map (pm25_year office site) (years_to year)

  abbrev valid_at : Option ℤ → List Bool
  valid_at value = map (λ (days : List QuarterDays). is_daily_year value (percentile_of of_values days) (counts_in of_values days)) years

  abbrev P : ℕ → Option ℤ
  P y = percentile_of of_values (pm25_year office site y)

  all-valid : (v : ℤ) → daily_value (P (year - 2)) (P (year - 1)) (P year) ≡ Some v → int_lt (level_of Daily2006) v ≡ true → are_all (valid_at (Some v)) ≡ true
  all-valid v e above =
      let there = are-there (P (year - 2)) (P (year - 1)) (P year) v e in
      rw (year-valid office site (year - 2) v there.a there.first above, year-valid office site (year - 1) v there.b there.second above, year-valid office site year v there.c there.third above) refl

  daily-met : (daily_design office site year).verdict ≡ Met → is_at_or_below (level_of Daily2006) (daily_design office site year).value ≡ true
  unfolding daily_design
  daily-met h = by_value (daily_value_of of_values years) refl h
    where
      by_tests : (v : ℤ) (t b c : Bool) → int_lt (level_of Daily2006) v ≡ b → (b ≡ true → c ≡ true) → cond c (cond b NotMet Met) (cond t Met Incomplete) ≡ Met → int_le v (level_of Daily2006) ≡ true
      by_tests v t false c e g h = below (level_of Daily2006) v e
      by_tests v t true true e g h = cc
      by_tests v t true false e g h = absurd (false≢true (g refl))

      by_value : (o : Option ℤ) → daily_value_of of_values years ≡ o
          → daily_verdict o (valid_at o) (daily_test o (valid_at o) (value_of_three (map (filled_percentile of_values years) years))) ≡ Met → is_at_or_below (level_of Daily2006) o ≡ true
      by_value None e h = cc
      by_value (Some v) e h =
          by_tests v (is_at_or_below (level_of Daily2006) (daily_test (Some v) (valid_at (Some v)) (value_of_three (map (filled_percentile of_values years) years))))
          (int_lt (level_of Daily2006) v) (are_all (valid_at (Some v))) refl (all-valid v e) h

  -- a value above the level is NotMet
  daily-above : (v : ℤ) → (daily_design office site year).value ≡ Some v → int_lt (level_of Daily2006) v ≡ true → (daily_design office site year).verdict ≡ NotMet
  unfolding daily_design
  daily-above v e above =
      ap (λ o. daily_verdict o (valid_at o) (daily_test o (valid_at o) maximum)) e
      ∙ by_tests (is_at_or_below (level_of Daily2006) (daily_test (Some v) (valid_at (Some v)) maximum)) (int_lt (level_of Daily2006) v) (are_all (valid_at (Some v))) above (all-valid v e above)
    where
      maximum : Option ℤ
      maximum = value_of_three (map (filled_percentile of_values years) years)

      by_tests : (t b c : Bool) → b ≡ true → c ≡ true → cond c (cond b NotMet Met) (cond t Met Incomplete) ≡ NotMet
      by_tests t true true e f = refl
      by_tests t false c e f = cc
      by_tests t true false e f = cc

-- ---- NotMet

ozone-not_met : (value : Option ℤ) (complete : Bool) → ozone_verdict value complete ≡ NotMet → is_above (level_of Ozone2015) value ≡ true
ozone-not_met None complete h = cc
ozone-not_met (Some v) complete h = by_tests (int_lt (level_of Ozone2015) v) complete h
  where
    by_tests : (b c : Bool) → cond b NotMet (cond c Met Incomplete) ≡ NotMet → b ≡ true
    by_tests true c h = refl
    by_tests false true h = cc
    by_tests false false h = cc

annual-not_met : (level : ℤ) (value : Option ℤ) (valid : List Bool) (test : Option ℤ) → annual_verdict level value valid test ≡ NotMet → is_above level value ≡ true
annual-not_met level None valid test h = cc
annual-not_met level (Some v) valid test h = by_tests (int_lt level v) (are_all valid || is_above level test) (are_all valid || is_at_or_below level test) h
  where
    by_tests : (b c d : Bool) → cond b (cond c NotMet Incomplete) (cond d Met Incomplete) ≡ NotMet → b ≡ true
    by_tests true c d h = refl
    by_tests false c true h = cc
    by_tests false c false h = cc

daily-not_met : (value : Option ℤ) (valid : List Bool) (test : Option ℤ) → daily_verdict value valid test ≡ NotMet → is_above (level_of Daily2006) value ≡ true
daily-not_met None valid test h = cc
daily-not_met (Some v) valid test h = by_tests (are_all valid) (int_lt (level_of Daily2006) v) (is_at_or_below (level_of Daily2006) test) h
  where
    by_tests : (a b c : Bool) → cond a (cond b NotMet Met) (cond c Met Incomplete) ≡ NotMet → b ≡ true
    by_tests true true c h = refl
    by_tests true false c h = cc
    by_tests false b true h = cc
    by_tests false b false h = cc

-- ---- each standard

module _ (office : Office) (site : Site) (year : ℕ) where
  abbrev is_complete_ozone : Bool
  is_complete_ozone = is_complete (ozone_year office site (year - 2)) (ozone_year office site (year - 1)) (ozone_year office site year)

  annual_design-met : (level : ℤ) → (annual_design level office site year).verdict ≡ Met → is_at_or_below level (annual_design level office site year).value ≡ true
  unfolding annual_design
  annual_design-met level h = let design = annual_design level office site year in annual-met level design.value design.valid design.test h

  annual_design-not_met : (level : ℤ) → (annual_design level office site year).verdict ≡ NotMet → is_above level (annual_design level office site year).value ≡ true
  unfolding annual_design
  annual_design-not_met level h = let design = annual_design level office site year in annual-not_met level design.value design.valid design.test h

  pub met-below : (standard : Standard) → verdict_in (design_value standard office site year) ≡ Met → is_at_or_below (level_of standard) (value_in (design_value standard office site year)) ≡ true
  unfolding design_value three_years pm10_design
  met-below Ozone2015 h = ozone-met (ozone_design office site year).value is_complete_ozone h
  met-below Annual2012 h = annual_design-met (level_of Annual2012) h
  met-below AnnualSecondary h = annual_design-met (level_of AnnualSecondary) h
  met-below Annual2024 h = annual_design-met (level_of Annual2024) h
  met-below Daily2006 h = daily-met office site year h
  met-below Pm10Of1987 h =
      pm10-met (pm10_design office site year).value (list_all is_complete_year (pm10_years office site year)) (is_unambiguous (pm10_years office site year)) h

  pub not_met-above : (standard : Standard) → (standard ≡ Pm10Of1987 → ⊥) → verdict_in (design_value standard office site year) ≡ NotMet
      → is_above (level_of standard) (value_in (design_value standard office site year)) ≡ true
  unfolding design_value three_years daily_design
  not_met-above Ozone2015 other h = ozone-not_met (ozone_design office site year).value is_complete_ozone h
  not_met-above Annual2012 other h = annual_design-not_met (level_of Annual2012) h
  not_met-above AnnualSecondary other h = annual_design-not_met (level_of AnnualSecondary) h
  not_met-above Annual2024 other h = annual_design-not_met (level_of Annual2024) h
  not_met-above Daily2006 other h = let design = daily_design office site year in daily-not_met design.value design.valid design.test h
  not_met-above Pm10Of1987 other h = absurd (other refl)

  pub not_met-from : (v : ℤ) → value_in (design_value Daily2006 office site year) ≡ Some v → pos 36 ≤ℤ v → verdict_in (design_value Daily2006 office site year) ≡ NotMet
  unfolding design_value
  not_met-from v e least = let above : int_lt (level_of Daily2006) v ≡ true = grind (arith, ints, least) in daily-above office site year v e above
