-- The PM2.5 verdicts of a valid office are those on what is kept of its years.
use Rattle.std.proofs.Common.{◌≡◌, ℕ, ◌-◌, List, [], ◌∷◌, map, sym}
use Rattle.std.specs.Prelude.{ℤ, All}
use Rattle.std.proofs.lemmas.List.Elements.{All-cons, All-nil}
use Rattle.aq_base.specs.Calendar.{quarter_number}
use Rattle.aq_base.specs.Site.{Site}
use Rattle.aq_rules.specs.Office.Office.{Office, IsOffice}
use Rattle.aq_rules.specs.Standards.{years_to}
use Rattle.aq_rules.specs.Particles.QuarterCounts.{QuarterDays, pm25_year}
use Rattle.aq_rules.specs.Particles.AnnualVerdict.{annual_design}
use Rattle.aq_rules.specs.Particles.DailyVerdict.{daily_design}
use Rattle.aq_rules.specs.Kept.Summaries.{KeepsPmYear, pm25_summary, summary_of_year}
use Rattle.aq_rules.specs.Kept.SummaryVerdicts.{kept_annual_dv, kept_daily_dv}
use Rattle.aq_rules.proofs.KeptSums.{kept_annual-same}
use Rattle.aq_rules.proofs.KeptDaily.{kept_daily-same}
use Rattle.aq_rules.proofs.Pm25Range.{pm25_year-keeps}
use Rattle.aq_rules.proofs.Quarters.{quarter-holds}

pub annual-kept : (level : ℤ) (office : Office) (site : Site) (year : ℕ) → annual_design level office site year ≡ kept_annual_dv level (map (pm25_summary office site) (years_to year))
unfolding annual_design pm25_summary
annual-kept level office site year = sym (kept_annual-same level (map (pm25_year office site) (years_to year)))

keeps : (office : Office) (site : Site) (year : ℕ) → IsOffice office → KeepsPmYear (summary_of_year (pm25_year office site year))
unfolding pm25_summary
keeps office site year valid = pm25_year-keeps office site year valid (λ part low. quarter-holds (quarter_number year part))

pub daily-kept : (office : Office) (site : Site) (year : ℕ) → IsOffice office → daily_design office site year ≡ kept_daily_dv (map (pm25_summary office site) (years_to year))
unfolding daily_design pm25_summary
daily-kept office site year valid =
    let y : ℕ → List QuarterDays = pm25_year office site in
    let P : List QuarterDays → Type 0 = λ q. KeepsPmYear (summary_of_year q) in
    let all : All P (y (year - 2) ∷ y (year - 1) ∷ y year ∷ []) =
    All-cons P (y (year - 2)) (y (year - 1) ∷ y year ∷ []) (keeps office site (year - 2) valid)
    (All-cons P (y (year - 1)) (y year ∷ []) (keeps office site (year - 1) valid)
    (All-cons P (y year) [] (keeps office site year valid) (All-nil P)))
    in
    sym (kept_daily-same (map (pm25_year office site) (years_to year)) all)
