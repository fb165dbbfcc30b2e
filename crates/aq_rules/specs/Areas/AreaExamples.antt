-- Design values of some sites and years, on which the laws work out areas and critical values.
use Rattle.std.specs.Prelude.{ℕ, List, [], ◌∷◌, Option, None, ℤ}
use Rattle.aq_base.specs.Site.{Site}
use Rattle.aq_base.specs.declared.standard.Verdict.{Verdict}
use Rattle.aq_rules.specs.DesignValues.{DesignValue, OfOzone}
use Rattle.aq_rules.specs.Particles.Pm10Estimate.{Pm10Quarter}
use Rattle.aq_rules.specs.Kept.Summaries.{PmYear}
use Rattle.aq_rules.specs.Areas.AreaValue.{AreaYear}
use Rattle.aq_rules.specs.Shown.ShownExamples.{first_pm25, second_pm25, third_pm25, fourth_pm25, no_pm25, pm25_year_of, first_pm10, second_pm10, third_pm10, fourth_pm10, no_pm10}

-- a site of the state 06
abbrev pub site_at : ℕ → ℕ → Site
site_at county number = record { state = 6; county = county; number = number }

-- its design value, with nothing of its years
abbrev pub judged_at : ℕ → ℕ → Option ℤ → Verdict → Site × DesignValue
judged_at county number value verdict = (site_at county number, OfOzone [] (record { value = value; verdict = verdict }))

-- an area's year of this verdict
abbrev pub year_of : Verdict → AreaYear
year_of verdict = record { sites = 1; governing = None; value = None; verdict = verdict }

-- three years, of which the last two have quarterly means of 11.0, 10.0, 10.0 and 12.0, in two orders
abbrev pub annual_years : List PmYear
annual_years =
    pm25_year_of (no_pm25 ∷ no_pm25 ∷ no_pm25 ∷ no_pm25 ∷ []) []
    ∷ pm25_year_of (first_pm25 ∷ second_pm25 ∷ third_pm25 ∷ fourth_pm25 ∷ []) (301 ∷ [])
    ∷ pm25_year_of (second_pm25 ∷ first_pm25 ∷ fourth_pm25 ∷ third_pm25 ∷ []) (200 ∷ []) ∷ []

-- three years, of which the last two have quarterly estimates of 18.75, 5.69, 10.95 and 27.60, and of four times 10.95
abbrev pub pm10_years_of : List (List Pm10Quarter)
pm10_years_of =
    (no_pm10 ∷ first_pm10 ∷ third_pm10 ∷ fourth_pm10 ∷ [])
    ∷ (first_pm10 ∷ second_pm10 ∷ third_pm10 ∷ fourth_pm10 ∷ [])
    ∷ (third_pm10 ∷ third_pm10 ∷ third_pm10 ∷ third_pm10 ∷ []) ∷ []
