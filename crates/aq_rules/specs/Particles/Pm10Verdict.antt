-- The verdict on the PM10 standard: no more than 1.0 expected exceedances a year (40 CFR Part 50, Appendix K, 2.1 and 2.3).
use Rattle.std.specs.Prelude.{ℕ, ◌*◌, Bool, ◌&&◌, ◌||◌, nat_le, if◌then◌else◌, List, map, sum_by, Option, Some, None, ℤ, int_le}
use Rattle.std.specs.List.{list_all}
use Rattle.aq_base.specs.Site.{Site}
use Rattle.aq_base.specs.declared.standard.Standard.TheVariants.{Pm10Of1987}
use Rattle.aq_base.specs.declared.standard.Verdict.{Verdict}
use Rattle.aq_base.specs.declared.standard.Verdict.TheVariants.{Met, NotMet, Incomplete, NoValue}
use Rattle.aq_rules.specs.Standards.{level_of, years_to, is_above}
use Rattle.aq_rules.specs.Office.Office.{Office}
use Rattle.aq_rules.specs.Particles.Pm10Estimate.{Pm10Quarter, pm10_year, quarter_estimate, quarter_lower, mean_of_years}

-- a day is scheduled, and at least three quarters of the scheduled days have a site day, excluded or not
abbrev pub is_complete_quarter : Pm10Quarter → Bool
is_complete_quarter q = nat_le 1 q.scheduled && nat_le (3 * q.scheduled) (4 * q.captured)

abbrev pub is_complete_year : List Pm10Quarter → Bool
is_complete_year quarters = list_all is_complete_quarter quarters

abbrev pub exceedances_in : List Pm10Quarter → ℕ
exceedances_in quarters = sum_by (λ (q : Pm10Quarter). q.exceedances) quarters

-- unambiguous, complete or not: four exceedances, or a lower estimate above 1.0 (own wording of 40 CFR Part 50, Appendix K, 2.3(c))
abbrev pub is_unambiguous : List (List Pm10Quarter) → Bool
is_unambiguous years = nat_le 4 (sum_by exceedances_in years) || is_above (level_of Pm10Of1987) (mean_of_years quarter_lower years)

abbrev pub pm10_verdict : Option ℤ → Bool → Bool → Verdict
pm10_verdict None complete unambiguous = if unambiguous then NotMet else NoValue
pm10_verdict (Some value) complete unambiguous =
    if complete then (if int_le value (level_of Pm10Of1987) then Met else NotMet)
    else (if unambiguous then NotMet else Incomplete)

-- the design value in tenths, and the verdict
pub record Pm10Dv : Type 0 where
  pub value : Option ℤ
  pub verdict : Verdict

-- of three years, the oldest first
abbrev pub pm10_dv : List (List Pm10Quarter) → Pm10Dv
pm10_dv years = record {
  value = mean_of_years quarter_estimate years;
  verdict = pm10_verdict (mean_of_years quarter_estimate years) (list_all is_complete_year years) (is_unambiguous years);
}

unfoldable pub pm10_design : Office → Site → ℕ → Pm10Dv
pm10_design office site year = pm10_dv (map (pm10_year office site) (years_to year))
