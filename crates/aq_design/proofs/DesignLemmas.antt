-- Design values of three years.
use Rattle.std.proofs.Common.{◌≡◌, ℕ, ◌-◌, List, [], ◌∷◌, map, ap, sym, ◌∙◌}
use Rattle.std.specs.Prelude.{ℤ, All}
use Rattle.std.proofs.lemmas.List.Elements.{All-cons, All-nil}
use Rattle.aq_base.specs.Site.{Site}
use Rattle.aq_rules.specs.DesignValues.{OfAnnual, OfDaily, OfOzone, OfPm10, pm10_years, pm25_years}
use Rattle.aq_rules.specs.Kept.Summaries.{KeepsPmYear, PmYear, pm25_summary, summary_of_year}
use Rattle.aq_rules.specs.Kept.SummaryVerdicts.{kept_annual_dv, kept_daily_dv}
use Rattle.aq_rules.specs.Office.Office.{Office}
use Rattle.aq_rules.specs.Ozone.OzoneVerdict.{OzoneDv, ozone_design, ozone_dv, three_years}
use Rattle.aq_rules.specs.Ozone.OzoneYear.{OzoneYear, ozone_year}
use Rattle.aq_rules.specs.Particles.AnnualVerdict.{ParticleDv, annual_design}
use Rattle.aq_rules.specs.Particles.DailyVerdict.{daily_design, daily_dv}
use Rattle.aq_rules.specs.Particles.Pm10Estimate.{Pm10Quarter}
use Rattle.aq_rules.specs.Particles.Pm10Verdict.{Pm10Dv, pm10_design, pm10_dv}
use Rattle.aq_rules.specs.Particles.QuarterCounts.{QuarterDays, pm25_year}
use Rattle.aq_rules.specs.Standards.{years_to}

module _ (office : Office) (site : Site) (last : ℕ) where
  pub years-are : (first second third : OzoneYear) → first ≡ ozone_year office site (last - 2) → second ≡ ozone_year office site (last - 1) → third ≡ ozone_year office site last → first ∷ second ∷ third ∷ [] ≡ three_years office site last
  unfolding three_years
  years-are first second third is_first is_second is_third = λ i. is_first i ∷ is_second i ∷ is_third i ∷ []

  pub ozone-value : (years : List OzoneYear) (design : OzoneDv) → years ≡ three_years office site last → design ≡ ozone_dv years → OfOzone years design ≡ OfOzone (three_years office site last) (ozone_design office site last)
  ozone-value years design are is = λ i. OfOzone (are i) ((is ∙ ap ozone_dv are) i)

  pub annual-value : (years : List PmYear) (design : ParticleDv) → years ≡ pm25_years office site last → (level : ℤ) → design ≡ kept_annual_dv level years
      → annual_design level office site last ≡ kept_annual_dv level (map (pm25_summary office site) (years_to last)) → OfAnnual years design ≡ OfAnnual (pm25_years office site last) (annual_design level office site last)
  annual-value years design are level is law = λ i. OfAnnual (are i) ((is ∙ ap (kept_annual_dv level) are ∙ sym law) i)

  -- the law of the eight greatest values, for three years that keep their facts
  daily-kept : ((years : List (List QuarterDays)) → All (λ year. KeepsPmYear (summary_of_year year)) years → kept_daily_dv (map summary_of_year years) ≡ daily_dv years)
      → KeepsPmYear (pm25_summary office site (last - 2)) → KeepsPmYear (pm25_summary office site (last - 1)) → KeepsPmYear (pm25_summary office site last)
      → kept_daily_dv (pm25_years office site last) ≡ daily_design office site last
  unfolding daily_design pm25_summary
  daily-kept law first second third =
      let y : ℕ → List QuarterDays = pm25_year office site in
      let P : List QuarterDays → Type 0 = λ q. KeepsPmYear (summary_of_year q) in
      law (map y (years_to last))
      (All-cons P (y (last - 2)) (y (last - 1) ∷ y last ∷ []) first
      (All-cons P (y (last - 1)) (y last ∷ []) second
      (All-cons P (y last) [] third (All-nil P))))

  pub daily-value : (years : List PmYear) (design : ParticleDv) → years ≡ pm25_years office site last → design ≡ kept_daily_dv years
      → ((years : List (List QuarterDays)) → All (λ year. KeepsPmYear (summary_of_year year)) years → kept_daily_dv (map summary_of_year years) ≡ daily_dv years)
      → KeepsPmYear (pm25_summary office site (last - 2)) → KeepsPmYear (pm25_summary office site (last - 1)) → KeepsPmYear (pm25_summary office site last)
      → OfDaily years design ≡ OfDaily (pm25_years office site last) (daily_design office site last)
  daily-value years design are is law first second third = λ i. OfDaily (are i) ((is ∙ ap kept_daily_dv are ∙ daily-kept law first second third) i)

  pub pm10-value : (years : List (List Pm10Quarter)) (design : Pm10Dv) → years ≡ pm10_years office site last → design ≡ pm10_dv years → OfPm10 years design ≡ OfPm10 (pm10_years office site last) (pm10_design office site last)
  unfolding pm10_design
  pm10-value years design are is = λ i. OfPm10 (are i) ((is ∙ ap pm10_dv are) i)
