-- The verdict on an annual PM2.5 standard (40 CFR Part 50, Appendix N, 4.1). The conditions of a valid year and the tests stand in this project's own words.
use Rattle.std.specs.Prelude.{ℕ, Bool, ◌&&◌, ◌||◌, nat_le, if◌then◌else◌, List, [], map, flat_map, Option, Some, None, option_map, option_and_then, ℤ, int_lt}
use Rattle.std.specs.List.{list_all}
use Rattle.aq_base.specs.Site.{Site}
use Rattle.aq_base.specs.declared.standard.Verdict.{Verdict}
use Rattle.aq_base.specs.declared.standard.Verdict.TheVariants.{Met, NotMet, Incomplete, NoValue}
use Rattle.aq_rules.specs.Standards.{years_to, is_above, is_at_or_below}
use Rattle.aq_rules.specs.Office.Office.{Office}
use Rattle.aq_rules.specs.Lists.{all_of}
use Rattle.aq_rules.specs.Particles.QuarterCounts.{QuarterCounts, QuarterDays, capture, pm25_year}
use Rattle.aq_rules.specs.Particles.Means.{Fraction, mean_of_means}
use Rattle.aq_rules.specs.Particles.YearParts.{Parts, of_values}
use Rattle.aq_rules.specs.Particles.Substitution.{Matched, minimum_for, maximum_for, matched}

abbrev pub is_captured : List QuarterCounts → Bool
is_captured quarters = list_all (λ counts. nat_le 75 (capture counts)) quarters

abbrev pub has_eleven_each : List QuarterCounts → Bool
has_eleven_each quarters = list_all (λ (counts : QuarterCounts). nat_le 11 counts.creditable) quarters

-- a capture of at least 75 in each quarter; or at least 11 creditable samples in each, with the annual mean or the design value above the level
abbrev pub is_annual_year : ℤ → Option ℤ → Option ℤ → List QuarterCounts → Bool
is_annual_year level value mean quarters =
    is_captured quarters || (has_eleven_each quarters && (is_above level mean || is_above level value))

abbrev pub are_all : List Bool → Bool
are_all valid = list_all (λ v. v) valid

-- the test's value: above the level the minimum test is asked for, else the maximum test, and none if all years are valid
abbrev pub annual_test : ℤ → Option ℤ → List Bool → Option ℤ → Option ℤ → Option ℤ
annual_test level None valid minimum maximum = None
annual_test level (Some value) valid minimum maximum =
    if are_all valid then None else (if int_lt level value then minimum else maximum)

-- above the level the verdict is NotMet or Incomplete, at or below it Met or Incomplete: if a year is not valid, the test has to bear the value out, and Incomplete says that it does not
abbrev pub annual_verdict : ℤ → Option ℤ → List Bool → Option ℤ → Verdict
annual_verdict level None valid test = NoValue
annual_verdict level (Some value) valid test =
    if int_lt level value
    then (if are_all valid || is_above level test then NotMet else Incomplete)
    else (if are_all valid || is_at_or_below level test then Met else Incomplete)

-- the design value, the value of the test that was asked for and whose needs are met, whether each year is valid, and the verdict
pub record ParticleDv : Type 0 where
  pub value : Option ℤ
  pub test : Option ℤ
  pub valid : List Bool
  pub verdict : Verdict

abbrev pub annual_from : ℤ → Option ℤ → List Bool → Option ℤ → Option ℤ → ParticleDv
annual_from level value valid minimum maximum = record {
  value = value;
  test = annual_test level value valid minimum maximum;
  valid = valid;
  verdict = annual_verdict level value valid (annual_test level value valid minimum maximum);
}

-- ---- the rule

module _ {Quarter Year : Type 0} (parts : Parts Quarter Year) where
  abbrev pub counts_in : Year → List QuarterCounts
  counts_in year = map parts.counts (parts.quarters year)

  -- the mean of quarters: of a year the annual mean, and of three years the design value
  abbrev pub mean_of : List Quarter → Option ℤ
  mean_of quarters = mean_of_means (map (parts.mean_with []) quarters)

  abbrev pub annual_value : List Year → Option ℤ
  annual_value years = mean_of (flat_map parts.quarters years)

  -- the mean of a quarter's list with its copies
  abbrev pub filled_mean : (Matched parts → Option (List ℤ)) → Matched parts → Option Fraction
  filled_mean copies_for row = option_map (λ copies. parts.mean_with copies row.0) (copies_for row)

  -- the design value with the copies: all twelve quarters are looked at, those of valid years too (own)
  abbrev pub filled_value : (Matched parts → Option (List ℤ)) → List Year → Option ℤ
  filled_value copies_for years =
      option_and_then mean_of_means (all_of (map (filled_mean copies_for) (flat_map (matched parts years) years)))

  -- of three years, the oldest first, and a level in tenths of a µg/m3
  abbrev pub annual_rule : ℤ → List Year → ParticleDv
  annual_rule level years =
      annual_from level (annual_value years)
      (map (λ year. is_annual_year level (annual_value years) (mean_of (parts.quarters year)) (counts_in year)) years)
      (filled_value (minimum_for parts) years) (filled_value (maximum_for parts) years)

-- the rule on lists of values
abbrev pub annual_dv : ℤ → List (List QuarterDays) → ParticleDv
annual_dv level years = annual_rule of_values level years

unfoldable pub annual_design : ℤ → Office → Site → ℕ → ParticleDv
annual_design level office site year = annual_dv level (map (pm25_year office site) (years_to year))
