-- The design value of combined sites does not hang on an office's loads.
use Rattle.std.proofs.Common.{◌≡◌, ℕ, List, refl, ◌∙◌}
use Rattle.aq_base.specs.Site.{Site}
use Rattle.aq_base.specs.declared.observation.ObsKey.{ObsKey}
use Rattle.aq_base.specs.declared.observation.Observation.{Observation}
use Rattle.aq_base.specs.declared.office.OfficeRecord.{OfficeRecord}
use Rattle.aq_base.specs.declared.standard.Standard.{Standard}
use Rattle.aq_base.specs.declared.standard.Standard.TheVariants.{Ozone2015, Annual2012, AnnualSecondary, Annual2024, Daily2006, Pm10Of1987}
use Rattle.aq_rules.specs.Combined.Pair.{pair_counts, pair_credits, pair_day, pair_hour, pair_ozone_day, pair_ozone_year, pair_pm25_year, pair_value}
use Rattle.aq_rules.specs.Office.Office.{Office}
use Rattle.aq_rules.specs.Ozone.SiteHour.{site_hour}
use Rattle.aq_rules.specs.Particles.ParticleDay.{monitor_day, site_day}
use Rattle.aq_office.proofs.Assuming.{loadless, made_of}

pair_is : (standard : Standard) (office : Office) (site : Site) (year : ℕ) → pair_value standard (loadless office) site year ≡ pair_value standard office site year
unfolding pair_value pair_ozone_year pair_ozone_day pair_hour site_hour pair_pm25_year pair_counts pair_credits pair_day site_day monitor_day
pair_is Ozone2015 office site year = refl
pair_is Annual2012 office site year = refl
pair_is AnnualSecondary office site year = refl
pair_is Annual2024 office site year = refl
pair_is Daily2006 office site year = refl
pair_is Pm10Of1987 office site year = refl

pub value_over : (office : Office) (records : List OfficeRecord) (rows : List (ObsKey × Observation)) → records ≡ office.records → rows ≡ office.observations → (standard : Standard) (site : Site) (year : ℕ)
    → pair_value standard (made_of records rows) site year ≡ pair_value standard office site year
value_over office records rows is are standard site year = (λ i. pair_value standard (made_of (is i) (are i)) site year) ∙ pair_is standard office site year
