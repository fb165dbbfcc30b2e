-- Years and verdicts that stand whatever is assumed of an event.
use Rattle.std.proofs.Common.{◌≡◌, ℕ, zero, suc, ◌+◌, ◌-◌, ◌≤◌, ◌==◌, true, Option, Some, None, List, [], ◌∷◌, map, ap, refl, sym, subst, ◌∙◌, arith}
use Rattle.std.specs.Prelude.{IfSome, is_some, slice_get}
use Rattle.std.proofs.lemmas.Bool.{false≢true, and_parts, eqb-true}
use Rattle.std.proofs.lemmas.Bool.Decides.{nat_tests}
use Rattle.std.proofs.lemmas.Option.{none-some}
use Rattle.aq_base.specs.Calendar.{is_year}
use Rattle.aq_base.specs.Site.{Site}
use Rattle.aq_base.specs.declared.code.Code.{Code}
use Rattle.aq_base.specs.declared.day.TheConstants.{FIRST_YEAR, LAST_YEAR}
use Rattle.aq_base.specs.declared.monitor.Pollutant.{Pollutant}
use Rattle.aq_base.specs.declared.office.OfficeKey.TheVariants.{Event as EventKey}
use Rattle.aq_base.specs.declared.office.OfficeRecord.{OfficeRecord}
use Rattle.aq_base.specs.declared.office.OfficeRecord.TheVariants.{Event}
use Rattle.aq_base.specs.declared.standard.Standard.{Standard}
use Rattle.aq_base.specs.declared.standard.Standard.TheVariants.{Ozone2015, Annual2012, AnnualSecondary, Annual2024, Daily2006, Pm10Of1987}
use Rattle.aq_registry.specs.Registry.{office_with}
use Rattle.aq_rules.specs.DesignValues.{OfAnnual, OfDaily, OfOzone, OfPm10, design_value, pm10_years, pm25_years}
use Rattle.aq_rules.specs.Kept.Summaries.{PmYear, pm25_summary, summary_of_year}
use Rattle.aq_rules.specs.Office.Office.{Office, event_stands, is_same, record_rank}
use Rattle.aq_rules.specs.Office.Questions.{record_of}
use Rattle.aq_rules.specs.Ozone.OzoneVerdict.{ozone_dv, three_years}
use Rattle.aq_rules.specs.Ozone.OzoneYear.{OzoneYear, ozone_year}
use Rattle.aq_rules.specs.Particles.AnnualVerdict.{annual_design, annual_dv}
use Rattle.aq_rules.specs.Particles.DailyVerdict.{daily_design, daily_dv}
use Rattle.aq_rules.specs.Particles.Pm10Estimate.{Pm10Quarter, pm10_year}
use Rattle.aq_rules.specs.Particles.Pm10Verdict.{pm10_design, pm10_dv}
use Rattle.aq_rules.specs.Particles.QuarterCounts.{pm25_year}
use Rattle.aq_rules.specs.Standards.{level_of, years_to}
use Rattle.aq_rules.proofs.Found.{find-passes, some_is}
use Rattle.aq_dirty.specs.OutOfReach.Outside.{AreAsBefore, IsOutside}
use Rattle.aq_verdict.specs.Designs.{design_of}
use Rattle.aq_design.specs.WhatIf.Standing.{IsUntouched, Stands, hours_in, office_in, ozone_years_in, pm10_years_in, pm25_years_in}
use Rattle.aq_design.specs.declared.what_if.standing.Hours.{Hours}
use Rattle.aq_design.specs.declared.what_if.standing.Standing.{Standing}

-- ---- the record of an event

-- what stands under an event's number is the event of that number
pub event-there : (rows : List OfficeRecord) (number : ℕ) (hours : Hours) → event_stands (office_with rows) number ≡ true → hours ≡ hours_in (record_of rows (EventKey number))
    → (s : Site) × (p : Pollutant) × (code : Code) × (record_of rows (EventKey number) ≡ Some (Event number s p hours.first hours.last code))
event-there rows number hours = by (record_of rows (EventKey number)) refl
  where
    same : (row : OfficeRecord) → record_of rows (EventKey number) ≡ Some row → is_same (record_rank row) (6 ∷ number ∷ []) ≡ true
    same = find-passes (λ row. is_same (record_rank row) (6 ∷ number ∷ [])) rows

    by : (found : Option OfficeRecord) → record_of rows (EventKey number) ≡ found → is_some found ≡ true → hours ≡ hours_in found
        → (s : Site) × (p : Pollutant) × (code : Code) × (found ≡ Some (Event number s p hours.first hours.last code))
    by (Some (Event n s p f l code)) at stands are =
        let equal : n ≡ number = eqb-true n number (and_parts (n == number) true (same (Event n s p f l code) at)).0 in
        (s, p, code, λ i. Some (Event (equal i) s p (sym are i).first (sym are i).last code))
    by (Some row) at stands are = absurd (false≢true (same row at))
    by None at stands are = absurd (false≢true stands)

-- ---- the years in a design value

year-at : {Y : Type 0} (f : ℕ → Y) (last year place : ℕ) (known : Y) → year + 2 ≡ last + place → slice_get (map f (years_to last)) place ≡ Some known → known ≡ f year
year-at f last year zero known at is = sym (some_is (f (last - 2)) known is) ∙ ap f (omega (arith, at))
year-at f last year (suc zero) known at is = sym (some_is (f (last - 1)) known is) ∙ ap f (omega (arith, at))
year-at f last year (suc (suc zero)) known at is = sym (some_is (f last) known is) ∙ ap f (omega (arith, at))
year-at f last year (suc (suc (suc n))) known at is = absurd (none-some known is)

module _ (office : Office) (site : Site) (last year place : ℕ) (at : year + 2 ≡ last + place) where
  ozone-at : (standard : Standard) (known : OzoneYear) → slice_get (ozone_years_in (design_value standard office site last)) place ≡ Some known → known ≡ ozone_year office site year
  unfolding design_value three_years
  ozone-at Ozone2015 known is = year-at (ozone_year office site) last year place known at is
  ozone-at Annual2012 known is = absurd (none-some known is)
  ozone-at AnnualSecondary known is = absurd (none-some known is)
  ozone-at Annual2024 known is = absurd (none-some known is)
  ozone-at Daily2006 known is = absurd (none-some known is)
  ozone-at Pm10Of1987 known is = absurd (none-some known is)

  pm25-at : (standard : Standard) (known : PmYear) → slice_get (pm25_years_in (design_value standard office site last)) place ≡ Some known → known ≡ pm25_summary office site year
  unfolding design_value
  pm25-at Ozone2015 known is = absurd (none-some known is)
  pm25-at Annual2012 known is = year-at (pm25_summary office site) last year place known at is
  pm25-at AnnualSecondary known is = year-at (pm25_summary office site) last year place known at is
  pm25-at Annual2024 known is = year-at (pm25_summary office site) last year place known at is
  pm25-at Daily2006 known is = year-at (pm25_summary office site) last year place known at is
  pm25-at Pm10Of1987 known is = absurd (none-some known is)

  pm10-at : (standard : Standard) (known : List Pm10Quarter) → slice_get (pm10_years_in (design_value standard office site last)) place ≡ Some known → known ≡ pm10_year office site year
  unfolding design_value
  pm10-at Ozone2015 known is = absurd (none-some known is)
  pm10-at Annual2012 known is = absurd (none-some known is)
  pm10-at AnnualSecondary known is = absurd (none-some known is)
  pm10-at Annual2024 known is = absurd (none-some known is)
  pm10-at Daily2006 known is = absurd (none-some known is)
  pm10-at Pm10Of1987 known is = year-at (pm10_year office site) last year place known at is

module _ (standing : Standing) (stands : Stands standing) (hours : Hours) (site : Site) (year place : ℕ) (untouched : IsUntouched standing hours site year place) where
  pub known-ozone : (o : Option OzoneYear) → o ≡ slice_get (ozone_years_in (design_of standing.value)) place
      → IfSome o (λ known. IsOutside hours.first hours.last year × (known ≡ ozone_year (office_in standing) site year))
  known-ozone None is = tt
  known-ozone (Some known) is =
      let there = ap (λ d. slice_get (ozone_years_in d) place) (sym stands) ∙ sym is in
      (untouched.outside, subst (λ (s : Site). known ≡ ozone_year (office_in standing) s year) (sym untouched.site_is) (ozone-at (office_in standing) standing.site standing.year year place untouched.at standing.standard known there))

  pub known-pm25 : (o : Option PmYear) → o ≡ slice_get (pm25_years_in (design_of standing.value)) place
      → IfSome o (λ known. IsOutside hours.first hours.last year × (known ≡ pm25_summary (office_in standing) site year))
  known-pm25 None is = tt
  known-pm25 (Some known) is =
      let there = ap (λ d. slice_get (pm25_years_in d) place) (sym stands) ∙ sym is in
      (untouched.outside, subst (λ (s : Site). known ≡ pm25_summary (office_in standing) s year) (sym untouched.site_is) (pm25-at (office_in standing) standing.site standing.year year place untouched.at standing.standard known there))

  pub known-pm10 : (o : Option (List Pm10Quarter)) → o ≡ slice_get (pm10_years_in (design_of standing.value)) place
      → IfSome o (λ known. IsOutside hours.first hours.last year × (known ≡ pm10_year (office_in standing) site year))
  known-pm10 None is = tt
  known-pm10 (Some known) is =
      let there = ap (λ d. slice_get (pm10_years_in d) place) (sym stands) ∙ sym is in
      (untouched.outside, subst (λ (s : Site). known ≡ pm10_year (office_in standing) s year) (sym untouched.site_is) (pm10-at (office_in standing) standing.site standing.year year place untouched.at standing.standard known there))

-- ---- years and design values outside the hours

pub in-profile : (year : ℕ) → FIRST_YEAR ≤ year → year ≤ LAST_YEAR → is_year year ≡ true
in-profile year low high = grind (arith, nat_tests, low, high)

module _ (before now : Office) (first last : ℕ) (same : AreAsBefore before now first last) where
  pub summary-same : (site : Site) (year : ℕ) → is_year year ≡ true → IsOutside first last year → pm25_summary now site year ≡ pm25_summary before site year
  unfolding pm25_summary
  summary-same site year inside out = ap summary_of_year (same.pm25 site year inside out)

  module _ (site : Site) (year : ℕ) (low : FIRST_YEAR + 2 ≤ year) (high : year ≤ LAST_YEAR)
      (out : IsOutside first last (year - 2) × IsOutside first last (year - 1) × IsOutside first last year) where
    three : {Y : Type 0} (f g : ℕ → Y) → ((y : ℕ) → is_year y ≡ true → IsOutside first last y → f y ≡ g y) → map f (years_to year) ≡ map g (years_to year)
    three f g alike =
        let a = alike (year - 2) (in-profile (year - 2) (omega (arith, low)) (omega (arith, high))) out.0 in
        let b = alike (year - 1) (in-profile (year - 1) (omega (arith, low)) (omega (arith, high))) out.1 in
        let c = alike year (in-profile year (omega (arith, low)) high) out.2 in
        λ i. a i ∷ b i ∷ c i ∷ []

    ozone-three : three_years now site year ≡ three_years before site year
    unfolding three_years
    ozone-three = three (ozone_year now site) (ozone_year before site) (λ y inside. same.ozone site y)

    summaries : pm25_years now site year ≡ pm25_years before site year
    summaries = three (pm25_summary now site) (pm25_summary before site) (summary-same site)

    pm25-three : map (pm25_year now site) (years_to year) ≡ map (pm25_year before site) (years_to year)
    pm25-three = three (pm25_year now site) (pm25_year before site) (same.pm25 site)

    pm10-three : pm10_years now site year ≡ pm10_years before site year
    pm10-three = three (pm10_year now site) (pm10_year before site) (same.pm10 site)

    pub value-same : (standard : Standard) → design_value standard now site year ≡ design_value standard before site year
    unfolding design_value annual_design daily_design pm10_design
    value-same Ozone2015 = λ i. OfOzone (ozone-three i) (ozone_dv (ozone-three i))
    value-same Annual2012 = λ i. OfAnnual (summaries i) (annual_dv (level_of Annual2012) (pm25-three i))
    value-same AnnualSecondary = λ i. OfAnnual (summaries i) (annual_dv (level_of AnnualSecondary) (pm25-three i))
    value-same Annual2024 = λ i. OfAnnual (summaries i) (annual_dv (level_of Annual2024) (pm25-three i))
    value-same Daily2006 = λ i. OfDaily (summaries i) (daily_dv (pm25-three i))
    value-same Pm10Of1987 = λ i. OfPm10 (pm10-three i) (pm10_dv (pm10-three i))
