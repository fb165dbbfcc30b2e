use Rattle.std.proofs.Common.{◌≡◌, ℕ, ◌+◌, ◌-◌, ◌≤◌, [], ◌∷◌, map, refl, ap, arith}
use Rattle.std.specs.Prelude.{Some, None, ℤ}
use Rattle.aq_base.specs.Calendar.{year_first}
use Rattle.aq_base.specs.Site.{Site}
use Rattle.aq_base.specs.declared.day.TheConstants.{FIRST_YEAR}
use Rattle.aq_base.specs.declared.monitor.Pollutant.TheVariants.{Pm25}
use Rattle.aq_base.specs.declared.standard.Standard.TheVariants.{Ozone2015, Annual2012, AnnualSecondary, Annual2024, Daily2006, Pm10Of1987}
use Rattle.aq_rules.specs.Standards.{level_of, years_to}
use Rattle.aq_rules.specs.Office.Office.{Office, IsOffice}
use Rattle.aq_rules.specs.Office.Questions.{Joined}
use Rattle.aq_rules.specs.Particles.ParticleDay.{site_day}
use Rattle.aq_rules.specs.Particles.QuarterCounts.{pm25_year}
use Rattle.aq_rules.specs.Particles.AnnualVerdict.{annual_design}
use Rattle.aq_rules.specs.Particles.DailyVerdict.{daily_design}
use Rattle.aq_rules.specs.Kept.Summaries.{pm25_summary}
use Rattle.aq_rules.proofs.PairQuarters.{pm25-year-alone}
use Rattle.aq_rules.specs.Ozone.OzoneDay.{windows}
use Rattle.aq_rules.specs.Ozone.OzoneYear.{ozone_year}
use Rattle.aq_rules.specs.Ozone.OzoneVerdict.{three_years}
use Rattle.aq_rules.specs.DesignValues.{OfAnnual, OfDaily, design_value, pm25_years}
use Rattle.aq_rules.specs.Combined.Pair.{Pair, pair_windows, pair_windows_on, pair_value, pair_ozone_year, pair_pm25_years, annual_value_of, daily_value_of}
use Rattle.aq_rules.proofs.PairAlone.{windows-alone, year-alone, three-end}
use Rattle.aq_rules.proofs.combined.a_joined_site_without_values_changes_nothing.Goals as goal

pub returns-clause-averages : goal.returns-clause-averages
unfolding pair_windows
returns-clause-averages c office site day joined stands none =
    let pair : Pair = record { site = site; joined = joined.site; from = joined.from } in
    let same : pair_windows_on office pair day ≡ windows office site day = windows-alone office pair none day in
    rw stands (ap Some same)

pub returns-clause-ozone : goal.returns-clause-ozone
unfolding pair_value design_value three_years
returns-clause-ozone c office site year joined stands none late before =
    let pair : Pair = record { site = site; joined = joined.site; from = joined.from } in
    let ends = three-end year joined.from late before in
    let a : pair_ozone_year office pair (year - 2) ≡ ozone_year office site (year - 2) = year-alone office pair none (year - 2) ends.0 in
    let b : pair_ozone_year office pair (year - 1) ≡ ozone_year office site (year - 1) = year-alone office pair none (year - 1) ends.1 in
    let d : pair_ozone_year office pair year ≡ ozone_year office site year = year-alone office pair none year ends.2 in
    rw stands rw a rw b rw d refl

module _ (office : Office) (site : Site) (year : ℕ) (joined : Joined) (valid : IsOffice office)
    (none : (day : ℕ) → site_day office joined.site Pm25 day ≡ None) (late : FIRST_YEAR + 2 ≤ year) (before : year_first (year + 1) ≤ joined.from) where
  abbrev whole : Pair
  whole = record { site = site; joined = joined.site; from = joined.from }

  years-alone : pair_pm25_years office year whole ≡ map (pm25_year office site) (years_to year)
  years-alone =
      let ends = three-end year joined.from late before in
      let a = pm25-year-alone office whole valid none (year - 2) (omega (arith, late)) ends.0 in
      let b = pm25-year-alone office whole valid none (year - 1) (omega (arith, late)) ends.1 in
      let d = pm25-year-alone office whole valid none year (omega (arith, late)) ends.2 in
      λ i. a i ∷ b i ∷ d i ∷ []

  annual-alone : (level : ℤ) → annual_value_of level (pair_pm25_years office year whole) ≡ OfAnnual (pm25_years office site year) (annual_design level office site year)
  unfolding pm25_summary annual_design
  annual-alone level = ap (annual_value_of level) years-alone

  daily-alone : daily_value_of (pair_pm25_years office year whole) ≡ OfDaily (pm25_years office site year) (daily_design office site year)
  unfolding pm25_summary daily_design
  daily-alone = ap daily_value_of years-alone

pub returns-clause-pm25 : goal.returns-clause-pm25
unfolding pair_value design_value
returns-clause-pm25 c Ozone2015 office site year joined of valid stands none late before = cc
returns-clause-pm25 c Annual2012 office site year joined of valid stands none late before =
    rw stands (ap Some (annual-alone office site year joined valid none late before (level_of Annual2012)))
returns-clause-pm25 c AnnualSecondary office site year joined of valid stands none late before =
    rw stands (ap Some (annual-alone office site year joined valid none late before (level_of AnnualSecondary)))
returns-clause-pm25 c Annual2024 office site year joined of valid stands none late before =
    rw stands (ap Some (annual-alone office site year joined valid none late before (level_of Annual2024)))
returns-clause-pm25 c Daily2006 office site year joined of valid stands none late before =
    rw stands (ap Some (daily-alone office site year joined valid none late before))
returns-clause-pm25 c Pm10Of1987 office site year joined of valid stands none late before = cc
