-- Questions about assumed concurrences do not hang on an office's loads.
use Rattle.std.proofs.Common.{◌≡◌, ℕ, Bool, List, [], ◌∷◌, Option, refl, ap, subst, ◌∙◌}
use Rattle.std.specs.Prelude.{IfErr, IfOk, Result}
use Rattle.std.specs.List.{filter_map}
use Rattle.aq_base.specs.Site.{Site}
use Rattle.aq_base.specs.declared.assumed.Assumed.{Assumed}
use Rattle.aq_base.specs.declared.assumed.DecisiveEvent.{DecisiveEvent}
use Rattle.aq_base.specs.declared.observation.ObsKey.{ObsKey}
use Rattle.aq_base.specs.declared.observation.Observation.{Observation}
use Rattle.aq_base.specs.declared.office.OfficeRecord.{OfficeRecord}
use Rattle.aq_base.specs.declared.standard.Standard.{Standard}
use Rattle.aq_base.specs.declared.standard.Standard.TheVariants.{Ozone2015, Annual2012, AnnualSecondary, Annual2024, Daily2006, Pm10Of1987}
use Rattle.aq_rules.specs.DesignValues.{design_value, verdict_in}
use Rattle.aq_rules.specs.Office.Office.{Office}
use Rattle.aq_rules.specs.Ozone.EightHour.{window}
use Rattle.aq_rules.specs.Ozone.OzoneDay.{ozone_day, windows}
use Rattle.aq_rules.specs.Ozone.OzoneVerdict.{three_years}
use Rattle.aq_rules.specs.Ozone.OzoneYear.{ozone_days, ozone_year}
use Rattle.aq_rules.specs.Ozone.SiteHour.{site_hour}
use Rattle.aq_rules.specs.Kept.Summaries.{pm25_summary}
use Rattle.aq_rules.specs.Particles.AnnualVerdict.{annual_design}
use Rattle.aq_rules.specs.Particles.DailyVerdict.{daily_design}
use Rattle.aq_rules.specs.Particles.ParticleDay.{monitor_day, site_day}
use Rattle.aq_rules.specs.Particles.Pm10Estimate.{pm10_quarter, pm10_year}
use Rattle.aq_rules.specs.Particles.Pm10Verdict.{pm10_design}
use Rattle.aq_rules.specs.Particles.QuarterCounts.{credits, pm25_year, quarter_counts, quarter_values}
use Rattle.aq_rules.specs.Particles.Strata.{first_days, strata_of}
use Rattle.aq_rules.specs.Questions.Answer.{is_registered}
use Rattle.aq_rules.specs.Standards.{pollutant_of}
use Rattle.aq_rules.specs.WhatIf.Assumed.{assume, decisive, decisive_if, events_at, turned_round, unknown_event, what_if}
use Rattle.aq_verdict.specs.declared.design_value.DesignValue.{DesignValue}
use Rattle.aq_verdict.specs.Designs.{design_of}
use Rattle.aq_design.specs.WhatIf.Refusals.{IsFaultOf}
use Rattle.aq_design.specs.declared.what_if.fault.WhatIfFault.{WhatIfFault}

-- the office without its loads
abbrev pub loadless : Office → Office
loadless office = record office { loads = [] }

value_is : (standard : Standard) (office : Office) (site : Site) (year : ℕ) → design_value standard (loadless office) site year ≡ design_value standard office site year
unfolding design_value three_years ozone_year ozone_days ozone_day windows window site_hour pm25_summary pm25_year quarter_counts quarter_values credits site_day monitor_day pm10_design pm10_year pm10_quarter strata_of first_days annual_design daily_design
value_is Ozone2015 office site year = refl
value_is Annual2012 office site year = refl
value_is AnnualSecondary office site year = refl
value_is Annual2024 office site year = refl
value_is Daily2006 office site year = refl
value_is Pm10Of1987 office site year = refl

assumed_is : (list : List Assumed) (office : Office) → assume (loadless office) list ≡ loadless (assume office list)
assumed_is [] office = refl
assumed_is (entry ∷ list) office = assumed_is list (assume office (entry ∷ []))

pub what_if_is : (standard : Standard) (office : Office) (list : List Assumed) (site : Site) (year : ℕ) → what_if standard (loadless office) list site year ≡ what_if standard office list site year
unfolding what_if
what_if_is standard office list site year =
    ap (λ (o : Office). design_value standard o site year) (assumed_is list office) ∙ value_is standard (assume office list) site year

pub decisive_is : (standard : Standard) (office : Office) (site : Site) (year : ℕ) → decisive standard (loadless office) site year ≡ decisive standard office site year
unfolding decisive
decisive_is standard office site year = λ i.
    filter_map
    (λ number. decisive_if (verdict_in (value_is standard office site year i)) (verdict_in (what_if_is standard office (turned_round office number ∷ []) site year i)) number)
    (events_at office site (pollutant_of standard))

-- ---- over records and observations that are an office's

-- the office of these records and observations
abbrev pub made_of : List OfficeRecord → List (ObsKey × Observation) → Office
made_of records rows = record { records = records; observations = rows; loads = [] }

module _ (office : Office) (records : List OfficeRecord) (rows : List (ObsKey × Observation)) (is : records ≡ office.records) (are : rows ≡ office.observations) (standard : Standard) (site : Site) (year : ℕ) where
  module _ (list : List Assumed) (answer : Result DesignValue WhatIfFault) where
    pub value_over : IfOk answer (λ value. design_of value ≡ what_if standard (made_of records rows) list site year) → IfOk answer (λ value. design_of value ≡ what_if standard office list site year)
    value_over told =
        subst (λ design. IfOk answer (λ value. design_of value ≡ design)) ((λ i. what_if standard (made_of (is i) (are i)) list site year) ∙ what_if_is standard office list site year) told

    pub refused_over : IfErr answer (λ fault. IsFaultOf (is_registered (made_of records rows) site) (unknown_event (made_of records rows) list) fault) → IfErr answer (λ fault. IsFaultOf (is_registered office site) (unknown_event office list) fault)
    refused_over told =
        subst (λ (why : Bool × Option ℕ). IfErr answer (λ fault. IsFaultOf why.0 why.1 fault)) (λ i. (is_registered (made_of (is i) (are i)) site, unknown_event (made_of (is i) (are i)) list)) told

  pub events_over : (answer : Result (List DecisiveEvent) WhatIfFault) → IfOk answer (λ events. events ≡ decisive standard (made_of records rows) site year) → IfOk answer (λ events. events ≡ decisive standard office site year)
  events_over answer told =
      subst (λ found. IfOk answer (λ events. events ≡ found)) ((λ i. decisive standard (made_of (is i) (are i)) site year) ∙ decisive_is standard office site year) told
