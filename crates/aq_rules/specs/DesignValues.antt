-- The design value of any standard for a site and the three years that end with a year.
use Rattle.std.specs.Prelude.{ℕ, Bool, true, false, List, map, Option, ℤ}
use Rattle.aq_base.specs.Site.{Site}
use Rattle.aq_base.specs.declared.standard.Standard.{Standard}
use Rattle.aq_base.specs.declared.standard.Standard.TheVariants.{Ozone2015, Annual2012, AnnualSecondary, Annual2024, Daily2006, Pm10Of1987}
use Rattle.aq_base.specs.declared.standard.Verdict.{Verdict}
use Rattle.aq_base.specs.declared.standard.Verdict.TheVariants.{Met, NotMet, Incomplete, NoValue}
use Rattle.aq_rules.specs.Standards.{level_of, years_to}
use Rattle.aq_rules.specs.Office.Office.{Office}
use Rattle.aq_rules.specs.Ozone.OzoneYear.{OzoneYear}
use Rattle.aq_rules.specs.Ozone.OzoneVerdict.{OzoneDv, three_years, ozone_design}
use Rattle.aq_rules.specs.Particles.AnnualVerdict.{ParticleDv, annual_design}
use Rattle.aq_rules.specs.Particles.DailyVerdict.{daily_design}
use Rattle.aq_rules.specs.Particles.Pm10Estimate.{Pm10Quarter, pm10_year}
use Rattle.aq_rules.specs.Particles.Pm10Verdict.{Pm10Dv, pm10_design}
use Rattle.aq_rules.specs.Kept.Summaries.{PmYear, pm25_summary}

-- what is kept of the three years, the oldest first, and the design value with its verdict
pub data DesignValue : Type 0 where
  OfOzone : (years : List OzoneYear) (design : OzoneDv) → DesignValue
  OfAnnual OfDaily : (years : List PmYear) (design : ParticleDv) → DesignValue
  OfPm10 : (years : List (List Pm10Quarter)) (design : Pm10Dv) → DesignValue

abbrev pub pm25_years : Office → Site → ℕ → List PmYear
pm25_years office site year = map (pm25_summary office site) (years_to year)

abbrev pub pm10_years : Office → Site → ℕ → List (List Pm10Quarter)
pm10_years office site year = map (pm10_year office site) (years_to year)

-- the design value of the standard at its level
unfoldable pub design_value : Standard → Office → Site → ℕ → DesignValue
design_value Ozone2015 office site year = OfOzone (three_years office site year) (ozone_design office site year)
design_value Annual2012 office site year = OfAnnual (pm25_years office site year) (annual_design (level_of Annual2012) office site year)
design_value AnnualSecondary office site year = OfAnnual (pm25_years office site year) (annual_design (level_of AnnualSecondary) office site year)
design_value Annual2024 office site year = OfAnnual (pm25_years office site year) (annual_design (level_of Annual2024) office site year)
design_value Daily2006 office site year = OfDaily (pm25_years office site year) (daily_design office site year)
design_value Pm10Of1987 office site year = OfPm10 (pm10_years office site year) (pm10_design office site year)

-- its number, in the standard's unit
abbrev pub value_in : DesignValue → Option ℤ
value_in (OfOzone years design) = design.value
value_in (OfAnnual years design) = design.value
value_in (OfDaily years design) = design.value
value_in (OfPm10 years design) = design.value

abbrev pub verdict_in : DesignValue → Verdict
verdict_in (OfOzone years design) = design.verdict
verdict_in (OfAnnual years design) = design.verdict
verdict_in (OfDaily years design) = design.verdict
verdict_in (OfPm10 years design) = design.verdict

abbrev pub is_same_verdict : Verdict → Verdict → Bool
is_same_verdict Met Met = true
is_same_verdict NotMet NotMet = true
is_same_verdict Incomplete Incomplete = true
is_same_verdict NoValue NoValue = true
is_same_verdict _ _ = false
