-- The critical value: how much the year after a report's may measure for the standard still to be met, with the report's year and the one before (own).
use Rattle.std.specs.Prelude.{◌≡◌, ◌*◌, Bool, true, false, if◌then◌else◌, Option, Some, None, option_map, List, [], ◌∷◌, length, map, ℤ, pos, ◌+ℤ◌, ◌*ℤ◌, ◌<ℤ◌, ◌≤◌, All, ⊤}
use Rattle.std.proofs.Math.IntN.{◌-ℤ◌}
use Rattle.std.specs.Int.{int_div_euclid}
use Rattle.std.specs.List.{list_all}
use Rattle.aq_base.specs.Decimal.{half_up}
use Rattle.aq_base.specs.declared.standard.Standard.{Standard}
use Rattle.aq_rules.specs.Lists.{total}
use Rattle.aq_rules.specs.Standards.{level_of, is_at_or_below}
use Rattle.aq_rules.specs.Ozone.OzoneYear.{OzoneYear}
use Rattle.aq_rules.specs.Ozone.OzoneVerdict.{design_value_of}
use Rattle.aq_rules.specs.Particles.Means.{Fraction, sum_of_fractions, has_days, mean_of_means}
use Rattle.aq_rules.specs.Particles.Percentile.{daily_value}
use Rattle.aq_rules.specs.Particles.Pm10Estimate.{quarter_estimate, year_of_quarters}
use Rattle.aq_rules.specs.Kept.Summaries.{PmYear}
use Rattle.aq_rules.specs.Kept.SummaryVerdicts.{of_summaries, kept_percentile}
use Rattle.aq_rules.specs.DesignValues.{DesignValue, OfOzone, OfAnnual, OfDaily, OfPm10}

-- ---- the last two years

-- what the last two years give to a design value: their fourth highest daily maxima, in thousandths of a ppm; their annual means, not rounded, or their percentiles, in tenths of a µg/m3; or their estimated exceedances, in tenths
pub data LastTwo : Type 0 where
  Fourths : (before last : ℤ) → LastTwo
  Means : (before last : Fraction) → LastTwo
  Percentiles : (before last : ℤ) → LastTwo
  Estimates : (before last : ℤ) → LastTwo

-- of the parts of three years, the oldest first
abbrev pub of_last_two : {X : Type 0} → (X → X → LastTwo) → List (Option X) → Option LastTwo
of_last_two make (first ∷ Some before ∷ Some last ∷ []) = Some (make before last)
of_last_two make _ = None

-- a mean of means that is not rounded; none if a quarter has no day
abbrev pub exact_mean_of : List Fraction → Option Fraction
exact_mean_of means =
    if list_all has_days means then Some ((sum_of_fractions means).0, length means * (sum_of_fractions means).1) else None

abbrev pub exact_mean : PmYear → Option Fraction
exact_mean year = exact_mean_of (map (of_summaries.mean_with []) year.quarters)

-- none if one of the two years lacks its part
abbrev pub last_two : DesignValue → Option LastTwo
last_two (OfOzone years design) = of_last_two Fourths (map (λ (year : OzoneYear). year.fourth) years)
last_two (OfAnnual years design) = of_last_two Means (map exact_mean years)
last_two (OfDaily years design) = of_last_two Percentiles (map kept_percentile years)
last_two (OfPm10 years design) = of_last_two Estimates (map (year_of_quarters quarter_estimate) years)

-- ---- the design value with the next year

-- the design value of the two years and of a next one whose part is this whole number: thousandths of a ppm for ozone, and else tenths
abbrev pub value_with : LastTwo → ℤ → Option ℤ
value_with (Fourths before last) next = design_value_of (Some before) (Some last) (Some next)
value_with (Means before last) next = mean_of_means (before ∷ last ∷ (next, 1) ∷ [])
value_with (Percentiles before last) next = daily_value (Some before) (Some last) (Some next)
value_with (Estimates before last) next = Some (half_up (total (before ∷ last ∷ next ∷ [])) (pos 3))

abbrev pub keeps_level : ℤ → LastTwo → ℤ → Bool
keeps_level level parts next = is_at_or_below level (value_with parts next)

-- the greatest whole number with which the level is kept
pub record IsCritical (level : ℤ) (parts : LastTwo) (next : ℤ) : Type 0 where
  pub kept : keeps_level level parts next ≡ true
  pub greatest : (more : ℤ) → next <ℤ more → keeps_level level parts more ≡ false

-- means are of some days, so that their denominators are above 0
abbrev pub HasDays : LastTwo → Type 0
HasDays (Fourths before last) = ⊤
HasDays (Means before last) = (1 ≤ before.1) × (1 ≤ last.1)
HasDays (Percentiles before last) = ⊤
HasDays (Estimates before last) = ⊤

-- a year of PM2.5 has four quarters
abbrev pub HasQuarters : DesignValue → Type 0
HasQuarters (OfOzone years design) = ⊤
HasQuarters (OfAnnual years design) = All (λ (year : PmYear). length year.quarters ≡ 4) years
HasQuarters (OfDaily years design) = ⊤
HasQuarters (OfPm10 years design) = ⊤

-- ---- the critical value, worked out

-- the greatest whole number below a quotient, for a divisor above 0
abbrev pub below : ℤ → ℤ → ℤ
below a b = int_div_euclid (a -ℤ pos 1) b

-- the greatest whole number below 3 * level + 3 / 2 less a sum of means
abbrev pub mean_below : ℤ → Fraction → ℤ
mean_below level sum = below ((((pos 2 *ℤ level) +ℤ pos 1) *ℤ pos (3 * sum.1)) -ℤ (pos 2 *ℤ sum.0)) (pos (2 * sum.1))

-- Ozone: a third of the sum of the three, cut, is at or below 70 as long as the sum is at most 3 * 70 + 2 = 212. So 70 and 71 leave 71.
-- Daily PM2.5: a thirtieth of the sum of the tenths, rounded half up, is at or below 35 as long as it is below 35.5, so as long as the sum is at most 30 * 35 + 14 = 1064. So 354 and 355 leave 355.
-- PM10: a third of the sum of the tenths, rounded half up, is at or below 10 as long as it is below 10.5, so as long as the sum is at most 3 * 10 + 1 = 31. So 10 and 11 leave 10.
-- Annual PM2.5: a third of the sum of the three means, rounded half up, is at or below the level as long as it is below the level and a half; the next mean is a whole number and the others need not be. At the level 90, 90 and 90 leave what is below 3 * 90.5 - 180 = 91.5. So they leave 91.
abbrev pub critical_with : ℤ → LastTwo → ℤ
critical_with level (Fourths before last) = (((pos 3 *ℤ level) +ℤ pos 2) -ℤ before) -ℤ last
critical_with level (Means before last) = mean_below level (sum_of_fractions (before ∷ last ∷ []))
critical_with level (Percentiles before last) = (((pos 30 *ℤ level) +ℤ pos 14) -ℤ before) -ℤ last
critical_with level (Estimates before last) = (((pos 3 *ℤ level) +ℤ pos 1) -ℤ before) -ℤ last

-- the critical value of a standard, from the design value of a site and year
unfoldable pub critical : Standard → DesignValue → Option ℤ
critical standard value = option_map (critical_with (level_of standard)) (last_two value)
