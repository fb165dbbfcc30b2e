-- What stands of a question, and what an event turned round leaves of it.
use Rattle.std.specs.Prelude.{◌≡◌, ◌+◌, ◌-◌, ℕ, Option, Some, List, []}
use Rattle.aq_base.specs.Site.{Site}
use Rattle.aq_base.specs.declared.day.TheConstants.{LAST_HOUR}
use Rattle.aq_base.specs.declared.office.OfficeRecord.{OfficeRecord}
use Rattle.aq_base.specs.declared.office.OfficeRecord.TheVariants.{Event}
use Rattle.aq_rules.specs.DesignValues.{DesignValue, OfAnnual, OfDaily, OfOzone, OfPm10, design_value}
use Rattle.aq_rules.specs.Kept.Summaries.{PmYear}
use Rattle.aq_rules.specs.Office.Office.{Office}
use Rattle.aq_rules.specs.Ozone.OzoneYear.{OzoneYear}
use Rattle.aq_rules.specs.Particles.Pm10Estimate.{Pm10Quarter}
use Rattle.aq_dirty.specs.OutOfReach.Outside.{IsOutside}
use Rattle.aq_series.specs.OfficeView.{office_of}
use Rattle.aq_verdict.specs.Designs.{design_of}
use Rattle.aq_design.specs.declared.what_if.standing.Hours.{Hours}
use Rattle.aq_design.specs.declared.what_if.standing.Standing.{Standing}

-- the office of a question
abbrev pub office_in : Standing → Office
office_in standing = office_of standing.registry.now standing.shelf.now

-- the value is the design value of that office
abbrev pub Stands : Standing → Type 0
Stands standing = design_of standing.value ≡ design_value standing.standard (office_in standing) standing.site standing.year

-- none of the hours is read for any of the three years that end with a year
abbrev pub AreOutside : Hours → ℕ → Type 0
AreOutside hours last = IsOutside hours.first hours.last (last - 2) × IsOutside hours.first hours.last (last - 1) × IsOutside hours.first hours.last last

-- the place of a year among the three of a question; no hour from the first to the last is read for it
pub record IsUntouched (standing : Standing) (hours : Hours) (site : Site) (year place : ℕ) : Type 0 where
  pub site_is : site ≡ standing.site
  pub at : year + 2 ≡ standing.year + place
  pub outside : IsOutside hours.first hours.last year

-- ---- the years in a design value

abbrev pub ozone_years_in : DesignValue → List OzoneYear
ozone_years_in (OfOzone years design) = years
ozone_years_in _ = []

abbrev pub pm25_years_in : DesignValue → List PmYear
pm25_years_in (OfAnnual years design) = years
pm25_years_in (OfDaily years design) = years
pm25_years_in _ = []

abbrev pub pm10_years_in : DesignValue → List (List Pm10Quarter)
pm10_years_in (OfPm10 years design) = years
pm10_years_in _ = []

-- ---- the hours of an event

-- where there is none, all hours
abbrev pub hours_in : Option OfficeRecord → Hours
hours_in (Some (Event number site pollutant first last code)) = record { first = first; last = last }
hours_in found = record { first = 0; last = LAST_HOUR }
