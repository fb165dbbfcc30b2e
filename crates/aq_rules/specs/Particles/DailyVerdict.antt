-- The verdict on the 24-hour PM2.5 standard of 35 µg/m3 (40 CFR Part 50, Appendix N, 4.2). The conditions of a valid year and the test stand in this project's own words.
use Rattle.std.specs.Prelude.{ℕ, Bool, ◌&&◌, ◌||◌, nat_le, if◌then◌else◌, List, [], ◌∷◌, map, flat_map, sum_by, Option, Some, None, option_map, option_and_then, ℤ, pos, int_lt}
use Rattle.aq_base.specs.Decimal.{half_up}
use Rattle.aq_base.specs.Site.{Site}
use Rattle.aq_base.specs.declared.standard.Standard.TheVariants.{Daily2006}
use Rattle.aq_base.specs.declared.standard.Verdict.{Verdict}
use Rattle.aq_base.specs.declared.standard.Verdict.TheVariants.{Met, NotMet, Incomplete, NoValue}
use Rattle.aq_rules.specs.Standards.{level_of, years_to, is_above, is_at_or_below}
use Rattle.aq_rules.specs.Office.Office.{Office}
use Rattle.aq_rules.specs.Lists.{all_of}
use Rattle.aq_rules.specs.Particles.QuarterCounts.{QuarterCounts, QuarterDays, pm25_year}
use Rattle.aq_rules.specs.Particles.Percentile.{daily_value}
use Rattle.aq_rules.specs.Particles.YearParts.{Parts, of_values}
use Rattle.aq_rules.specs.Particles.Substitution.{maximum_for, matched}
use Rattle.aq_rules.specs.Particles.AnnualVerdict.{ParticleDv, is_captured, are_all, counts_in}

-- a percentile in whole µg/m3
abbrev pub rounded : Option ℤ → Option ℤ
rounded value = option_map (λ v. half_up v (pos 10)) value

-- a capture of at least 75 in each quarter; or at least one creditable sample in the year, with the percentile or the design value above the level
abbrev pub is_daily_year : Option ℤ → Option ℤ → List QuarterCounts → Bool
is_daily_year value percentile quarters =
    is_captured quarters
    || (nat_le 1 (sum_by (λ (counts : QuarterCounts). counts.creditable) quarters)
    && (is_above (level_of Daily2006) (rounded percentile) || is_above (level_of Daily2006) value))

-- the maximum test is asked for if a year is not valid, and then the value is at or below the level
abbrev pub daily_test : Option ℤ → List Bool → Option ℤ → Option ℤ
daily_test None valid maximum = None
daily_test (Some value) valid maximum = if are_all valid then None else maximum

-- if a year is not valid, the maximum test decides between Met and Incomplete. A value above the level makes each year with a creditable sample valid, and without one in each year there is no value: so 36 µg/m3 or more is NotMet
abbrev pub daily_verdict : Option ℤ → List Bool → Option ℤ → Verdict
daily_verdict None valid test = NoValue
daily_verdict (Some value) valid test =
    if are_all valid then (if int_lt (level_of Daily2006) value then NotMet else Met)
    else (if is_at_or_below (level_of Daily2006) test then Met else Incomplete)

abbrev pub daily_from : Option ℤ → List Bool → Option ℤ → ParticleDv
daily_from value valid maximum = record {
  value = value;
  test = daily_test value valid maximum;
  valid = valid;
  verdict = daily_verdict value valid (daily_test value valid maximum);
}

-- of three percentiles
abbrev pub value_of_three : List (Option ℤ) → Option ℤ
value_of_three (a ∷ b ∷ c ∷ []) = daily_value a b c
value_of_three _ = None

-- ---- the rule

module _ {Quarter Year : Type 0} (parts : Parts Quarter Year) where
  abbrev pub percentile_of : Year → Option ℤ
  percentile_of year = parts.percentile_with [] year

  abbrev pub daily_value_of : List Year → Option ℤ
  daily_value_of years = value_of_three (map percentile_of years)

  -- the copies of all quarters of a year; all four are looked at, those of a valid year too (own)
  abbrev pub copies_in : List Year → Year → Option (List ℤ)
  copies_in years year = option_map (flat_map (λ copies. copies)) (all_of (map (maximum_for parts) (matched parts years year)))

  -- the percentile of the year's list with its copies
  abbrev pub filled_percentile : List Year → Year → Option ℤ
  filled_percentile years year = option_and_then (λ copies. parts.percentile_with copies year) (copies_in years year)

  -- of three years, the oldest first
  abbrev pub daily_rule : List Year → ParticleDv
  daily_rule years =
      daily_from (daily_value_of years)
      (map (λ year. is_daily_year (daily_value_of years) (percentile_of year) (counts_in parts year)) years)
      (value_of_three (map (filled_percentile years) years))

-- the rule on lists of values
abbrev pub daily_dv : List (List QuarterDays) → ParticleDv
daily_dv years = daily_rule of_values years

unfoldable pub daily_design : Office → Site → ℕ → ParticleDv
daily_design office site year = daily_dv (map (pm25_year office site) (years_to year))
