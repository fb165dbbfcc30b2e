-- What is asked of an office does not hang on its loads.
use Rattle.std.proofs.Common.{◌≡◌, ℕ, List, refl}
use Rattle.aq_base.specs.Site.{Site}
use Rattle.aq_base.specs.declared.monitor.Pollutant.{Pollutant}
use Rattle.aq_base.specs.declared.monitor.Pollutant.TheVariants.{Pm10, Pm25}
use Rattle.aq_base.specs.declared.observation.ObsKey.{ObsKey}
use Rattle.aq_base.specs.declared.observation.Observation.{Observation}
use Rattle.aq_base.specs.declared.office.OfficeRecord.{OfficeRecord}
use Rattle.aq_rules.specs.Kept.Summaries.{pm25_summary}
use Rattle.aq_rules.specs.Office.Office.{StoredLoad}
use Rattle.aq_rules.specs.Ozone.EightHour.{window}
use Rattle.aq_rules.specs.Ozone.OzoneDay.{ozone_day, windows}
use Rattle.aq_rules.specs.Ozone.OzoneYear.{ozone_days, ozone_year}
use Rattle.aq_rules.specs.Ozone.SiteHour.{site_hour}
use Rattle.aq_rules.specs.Particles.ParticleDay.{monitor_day, site_day}
use Rattle.aq_rules.specs.Particles.QuarterCounts.{credits, pm25_year, quarter_counts, quarter_values}
use Rattle.aq_rules.specs.Particles.Pm10Estimate.{pm10_quarter, pm10_year}
use Rattle.aq_rules.specs.Particles.Strata.{first_days, strata_of}
use Rattle.aq_rules.specs.Shown.Export.{shown_of}
use Rattle.aq_series.specs.OfficeView.{office_of}
use Rattle.aq_book.specs.View.{standing}

module _ (records : List OfficeRecord) (rows : List (ObsKey × Observation)) (loads : List StoredLoad) (site : Site) where
  pub windows_are : (day : ℕ) → windows (office_of records rows) site day ≡ windows (standing records rows loads) site day
  unfolding windows window site_hour
  windows_are day = refl

  pub ozone_days_are : (year : ℕ) → ozone_days (office_of records rows) site year ≡ ozone_days (standing records rows loads) site year
  unfolding ozone_days ozone_day windows window site_hour
  ozone_days_are year = refl

  pub ozone_year_is : (year : ℕ) → ozone_year (office_of records rows) site year ≡ ozone_year (standing records rows loads) site year
  unfolding ozone_year ozone_days ozone_day windows window site_hour
  ozone_year_is year = refl

  pub pm25_day_is : (day : ℕ) → site_day (office_of records rows) site Pm25 day ≡ site_day (standing records rows loads) site Pm25 day
  unfolding site_day monitor_day
  pm25_day_is day = refl

  pub pm10_day_is : (day : ℕ) → site_day (office_of records rows) site Pm10 day ≡ site_day (standing records rows loads) site Pm10 day
  unfolding site_day monitor_day
  pm10_day_is day = refl

  pub pm25_summary_is : (year : ℕ) → pm25_summary (office_of records rows) site year ≡ pm25_summary (standing records rows loads) site year
  unfolding pm25_summary pm25_year quarter_counts quarter_values credits site_day monitor_day
  pm25_summary_is year = refl

  pub pm10_year_is : (year : ℕ) → pm10_year (office_of records rows) site year ≡ pm10_year (standing records rows loads) site year
  unfolding pm10_year pm10_quarter strata_of first_days site_day monitor_day
  pm10_year_is year = refl

  pub shown_are : (pollutant : Pollutant) (year : ℕ) → shown_of (office_of records rows) site pollutant year ≡ shown_of (standing records rows loads) site pollutant year
  unfolding shown_of
  shown_are pollutant year = refl
