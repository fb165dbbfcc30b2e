-- A registry and a shelf as an office of the book of rules.
use Rattle.std.specs.Prelude.{◌≡◌, ℕ, List, []}
use Rattle.std.proofs.Common.{refl}
use Rattle.aq_base.specs.Site.{Site}
use Rattle.aq_base.specs.declared.observation.ObsKey.{ObsKey}
use Rattle.aq_base.specs.declared.observation.Observation.{Observation}
use Rattle.aq_base.specs.declared.office.OfficeRecord.{OfficeRecord}
use Rattle.aq_rules.specs.Office.Office.{Office}
use Rattle.aq_rules.specs.Ozone.SiteHour.{site_hour}

-- the office of these records and observations, without loads
abbrev pub office_of : List OfficeRecord → List (ObsKey × Observation) → Office
office_of registry shelf = record { records = registry; observations = shelf; loads = [] }

-- a site's ozone hour is the same whatever loads there are
pub site_hour-loads : (office : Office) (site : Site) (hour : ℕ) → site_hour office site hour ≡ site_hour (office_of office.records office.observations) site hour
unfolding site_hour
site_hour-loads office site hour = refl
