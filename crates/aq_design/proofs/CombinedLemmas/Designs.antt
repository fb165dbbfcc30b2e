-- What stands at a site, by the pair that it is the first one of; and the design values of a pair's three years.
use Rattle.std.proofs.Common.{◌≡◌, ℕ, ◌-◌, Some, None, Option, List, [], ◌∷◌, map, refl, ap, ◌∙◌}
use Rattle.std.specs.Prelude.{ℤ, All, option_and_then, option_map}
use Rattle.std.proofs.lemmas.List.Elements.{All-cons, All-nil}
use Rattle.aq_base.specs.Site.{Site}
use Rattle.aq_base.specs.declared.monitor.Pollutant.TheVariants.{Ozone, Pm10, Pm25}
use Rattle.aq_base.specs.declared.standard.Standard.{Standard}
use Rattle.aq_base.specs.declared.standard.Standard.TheVariants.{Ozone2015, Annual2012, AnnualSecondary, Annual2024, Daily2006, Pm10Of1987}
use Rattle.aq_rules.specs.Combined.Pair.{Pair, annual_value_of, daily_value_of, is_pair_approved, ozone_value_of, pair_hour, pair_of, pair_ozone_day, pair_ozone_year, pair_ozone_years, pair_pm25_year, pair_pm25_years, pair_value, pair_windows, pair_windows_on}
use Rattle.aq_rules.specs.DesignValues.{DesignValue, OfAnnual, OfDaily, OfOzone}
use Rattle.aq_rules.specs.Kept.Summaries.{KeepsPmYear, PmYear, summary_of_year}
use Rattle.aq_rules.specs.Kept.SummaryVerdicts.{kept_annual_dv, kept_daily_dv}
use Rattle.aq_rules.specs.Office.Office.{Office}
use Rattle.aq_rules.specs.Office.Questions.{Joined}
use Rattle.aq_rules.specs.Office.Season.{season_of}
use Rattle.aq_rules.specs.Ozone.OzoneVerdict.{OzoneDv, ozone_dv}
use Rattle.aq_rules.specs.Ozone.OzoneYear.{OzoneYear}
use Rattle.aq_rules.specs.Particles.AnnualVerdict.{ParticleDv, annual_dv}
use Rattle.aq_rules.specs.Particles.DailyVerdict.{daily_dv}
use Rattle.aq_rules.specs.Particles.QuarterCounts.{QuarterDays}
use Rattle.aq_rules.specs.Standards.{level_of, pollutant_of}
use Rattle.aq_registry.specs.Registry.{joined_from}
use Rattle.aq_ozone.specs.YearDays.{ozone_year_by}
use Rattle.aq_design.specs.Combined.Pairs.{value_by}

-- ---- the pair

abbrev pub with_joined : Site → Joined → Pair
with_joined site j = record { site = site; joined = j.site; from = j.from }

pub no-pair : (site : Site) (o : Option Joined) → None ≡ option_map joined_from o → None ≡ option_map (with_joined site) o
no-pair site None is = refl
no-pair site (Some j) is = cc

pub one-pair : (site joined : Site) (from : ℕ) (o : Option Joined) → Some (joined, from) ≡ option_map joined_from o
    → Some (record { site = site; joined = joined; from = from }) ≡ option_map (with_joined site) o
one-pair site joined from None is = cc
one-pair site joined from (Some j) is =
    let same : (joined, from) ≡ joined_from j = cc in
    λ i. Some (record { site = site; joined = (same i).0; from = (same i).1 })

-- ---- what stands at a site

module _ (office : Office) (site : Site) where
  pub windows-at : (day : ℕ) (o : Option Pair) → o ≡ pair_of office site Ozone → option_map (λ (pair : Pair). pair_windows_on office pair day) o ≡ pair_windows office site day
  unfolding pair_windows
  windows-at day o is = ap (option_map (λ (pair : Pair). pair_windows_on office pair day)) is

  module _ (year : ℕ) where
    each_some : (f : Pair → DesignValue) (o : Option Pair) → option_and_then (λ pair. Some (f pair)) o ≡ option_map f o
    each_some f None = refl
    each_some f (Some pair) = refl

    each_none : (o : Option Pair) → option_and_then (value_by Pm10Of1987 office year) o ≡ None
    unfolding value_by
    each_none None = refl
    each_none (Some pair) = refl

    of_pair : (standard : Standard) → option_and_then (value_by standard office year) (pair_of office site (pollutant_of standard)) ≡ pair_value standard office site year
    unfolding value_by pair_value
    of_pair Ozone2015 = each_some (λ pair. ozone_value_of (pair_ozone_years office year pair)) (pair_of office site Ozone)
    of_pair Annual2012 = each_some (λ pair. annual_value_of (level_of Annual2012) (pair_pm25_years office year pair)) (pair_of office site Pm25)
    of_pair AnnualSecondary = each_some (λ pair. annual_value_of (level_of AnnualSecondary) (pair_pm25_years office year pair)) (pair_of office site Pm25)
    of_pair Annual2024 = each_some (λ pair. annual_value_of (level_of Annual2024) (pair_pm25_years office year pair)) (pair_of office site Pm25)
    of_pair Daily2006 = each_some (λ pair. daily_value_of (pair_pm25_years office year pair)) (pair_of office site Pm25)
    of_pair Pm10Of1987 = each_none (pair_of office site Pm10)

    pub value-at : (standard : Standard) (o : Option Pair) → o ≡ pair_of office site (pollutant_of standard) → option_and_then (value_by standard office year) o ≡ pair_value standard office site year
    value-at standard o is = ap (option_and_then (value_by standard office year)) is ∙ of_pair standard

-- ---- three years

module _ (office : Office) (pair : Pair) where
  pub ozone-year-is : (year : ℕ) → ozone_year_by (pair_hour office pair) (is_pair_approved office pair) (season_of office.records pair.site year) year ≡ pair_ozone_year office pair year
  unfolding ozone_year_by pair_ozone_day pair_ozone_year
  ozone-year-is year = refl

  module _ (last : ℕ) where
    pub ozone-value : (years : List OzoneYear) (design : OzoneDv) → years ≡ pair_ozone_years office last pair → design ≡ ozone_dv years → OfOzone years design ≡ ozone_value_of (pair_ozone_years office last pair)
    ozone-value years design are is = λ i. OfOzone (are i) ((is ∙ ap ozone_dv are) i)

    pub annual-value : (years : List PmYear) (design : ParticleDv) → years ≡ map summary_of_year (pair_pm25_years office last pair) → (level : ℤ) → design ≡ kept_annual_dv level years
        → ((level : ℤ) (years : List (List QuarterDays)) → kept_annual_dv level (map summary_of_year years) ≡ annual_dv level years)
        → OfAnnual years design ≡ annual_value_of level (pair_pm25_years office last pair)
    annual-value years design are level is law = λ i. OfAnnual (are i) ((is ∙ ap (kept_annual_dv level) are ∙ law level (pair_pm25_years office last pair)) i)

    pub daily-value : (years : List PmYear) (design : ParticleDv) → years ≡ map summary_of_year (pair_pm25_years office last pair) → design ≡ kept_daily_dv years
        → ((years : List (List QuarterDays)) → All (λ year. KeepsPmYear (summary_of_year year)) years → kept_daily_dv (map summary_of_year years) ≡ daily_dv years)
        → KeepsPmYear (summary_of_year (pair_pm25_year office pair (last - 2))) → KeepsPmYear (summary_of_year (pair_pm25_year office pair (last - 1))) → KeepsPmYear (summary_of_year (pair_pm25_year office pair last))
        → OfDaily years design ≡ daily_value_of (pair_pm25_years office last pair)
    daily-value years design are is law first second third =
        let y : ℕ → List QuarterDays = pair_pm25_year office pair in
        let P : List QuarterDays → Type 0 = λ q. KeepsPmYear (summary_of_year q) in
        let kept =
        law (pair_pm25_years office last pair)
        (All-cons P (y (last - 2)) (y (last - 1) ∷ y last ∷ []) first
        (All-cons P (y (last - 1)) (y last ∷ []) second
        (All-cons P (y last) [] third (All-nil P)))) in
        λ i. OfDaily (are i) ((is ∙ ap kept_daily_dv are ∙ kept) i)
