-- Years that an event does not touch.
use Rattle.std.specs.Prelude.{◌≡◌, ◌<◌, ◌+◌, ◌⊎◌, ℕ, true}
use Rattle.aq_base.specs.Calendar.{days_in_year, hour_number, is_year, year_first}
use Rattle.aq_base.specs.Site.{Site}
use Rattle.aq_rules.specs.Office.Office.{Office}
use Rattle.aq_rules.specs.Ozone.OzoneYear.{ozone_year}
use Rattle.aq_rules.specs.Particles.Pm10Estimate.{pm10_year}
use Rattle.aq_rules.specs.Particles.QuarterCounts.{pm25_year}

-- the hours from the first to the last end before a year, or begin after what it reads: ozone days read as far as 06:00 of the next day
abbrev pub IsOutside : ℕ → ℕ → ℕ → Type 0
IsOutside first last year = (last < hour_number (year_first year) 0) ⊎ (hour_number (year_first year + days_in_year year) 6 < first)

-- the years that read none of the hours are the same in both offices, of ozone, PM2.5 and PM10, at any site
pub record AreAsBefore (before now : Office) (first last : ℕ) : Type 0 where
  pub ozone : (site : Site) (year : ℕ) → IsOutside first last year → ozone_year now site year ≡ ozone_year before site year
  pub pm25 : (site : Site) (year : ℕ) → is_year year ≡ true → IsOutside first last year → pm25_year now site year ≡ pm25_year before site year
  pub pm10 : (site : Site) (year : ℕ) → is_year year ≡ true → IsOutside first last year → pm10_year now site year ≡ pm10_year before site year
