-- The last days of an office do not hang on its loads.
use Rattle.std.proofs.Common.{◌≡◌, ℕ, List, Option, refl, ◌∙◌}
use Rattle.aq_base.specs.Site.{Site}
use Rattle.aq_base.specs.declared.monitor.Pollutant.{Pollutant}
use Rattle.aq_base.specs.declared.observation.ObsKey.{ObsKey}
use Rattle.aq_base.specs.declared.observation.Observation.{Observation}
use Rattle.aq_base.specs.declared.office.OfficeRecord.{OfficeRecord}
use Rattle.aq_listed.specs.LastDay.{last_day, last_day_at}
use Rattle.aq_office.proofs.Assuming.{made_of}
use Rattle.aq_rules.specs.Listed.Monitors.{listed_monitors, monitors_of}
use Rattle.aq_rules.specs.Listed.Places.{standing_at}
use Rattle.aq_rules.specs.Office.Office.{Office}

module _ (office : Office) where
  last_is : last_day (made_of office.records office.observations) ≡ last_day office
  unfolding last_day listed_monitors monitors_of standing_at
  last_is = refl

  last_at_is : (site : Site) (pollutant : Pollutant) → last_day_at (made_of office.records office.observations) site pollutant ≡ last_day_at office site pollutant
  unfolding last_day_at monitors_of standing_at
  last_at_is site pollutant = refl

  -- over records and observations that are the office's
  module _ (records : List OfficeRecord) (rows : List (ObsKey × Observation)) (is : records ≡ office.records) (are : rows ≡ office.observations) where
    pub last_over : (day : Option ℕ) → day ≡ last_day (made_of records rows) → day ≡ last_day office
    last_over day told = told ∙ (λ i. last_day (made_of (is i) (are i))) ∙ last_is

    pub last_at_over : (site : Site) (pollutant : Pollutant) (day : Option ℕ) → day ≡ last_day_at (made_of records rows) site pollutant → day ≡ last_day_at office site pollutant
    last_at_over site pollutant day told = told ∙ (λ i. last_day_at (made_of (is i) (are i)) site pollutant) ∙ last_at_is site pollutant
