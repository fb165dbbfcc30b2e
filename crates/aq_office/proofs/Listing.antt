-- What is listed of an office does not hang on its loads, nor do its sites and records on its observations.
use Rattle.std.proofs.Common.{◌≡◌, ℕ, List, [], refl, subst, ◌∙◌}
use Rattle.std.specs.Prelude.{IfOk, Result}
use Rattle.aq_base.specs.Site.{Site}
use Rattle.aq_base.specs.declared.monitor.Pollutant.{Pollutant}
use Rattle.aq_base.specs.declared.observation.ObsKey.{ObsKey}
use Rattle.aq_base.specs.declared.observation.Observation.{Observation}
use Rattle.aq_base.specs.declared.office.OfficeRecord.{OfficeRecord}
use Rattle.aq_base.specs.declared.refusal.Memory.{Memory}
use Rattle.aq_rules.specs.Listed.Completeness.{completeness_answer, listed_months, month_counts}
use Rattle.aq_rules.specs.Listed.Events.{agreement_of, events_answer, events_of, listed_events}
use Rattle.aq_rules.specs.Listed.Flags.{flags_answer, listed_flags}
use Rattle.aq_rules.specs.Listed.Monitors.{listed_monitors, monitors_answer, monitors_of}
use Rattle.aq_rules.specs.Listed.ObservationLines.{lines_answer}
use Rattle.aq_rules.specs.Listed.Places.{standing_at, standing_of}
use Rattle.aq_rules.specs.Listed.Records.{records_answer}
use Rattle.aq_rules.specs.Listed.Sites.{listed_sites, monitor_count, sites_answer}
use Rattle.aq_rules.specs.Office.Office.{Office}
use Rattle.aq_rules.specs.Shown.Sheet.{Sheet}
use Rattle.aq_office.proofs.Assuming.{made_of}

module _ (office : Office) where
  sites_are : sites_answer (made_of office.records []) ≡ sites_answer office
  unfolding sites_answer listed_sites monitor_count
  sites_are = refl

  records_are : records_answer (made_of office.records []) ≡ records_answer office
  unfolding records_answer
  records_are = refl

  module _ (site : Site) where
    monitors_are : monitors_answer (made_of office.records office.observations) site ≡ monitors_answer office site
    unfolding monitors_answer listed_monitors monitors_of standing_at
    monitors_are = refl

    events_are : events_answer (made_of office.records office.observations) site ≡ events_answer office site
    unfolding events_answer listed_events events_of agreement_of
    events_are = refl

    module _ (pollutant : Pollutant) (year : ℕ) where
      flags_are : flags_answer (made_of office.records office.observations) site pollutant year ≡ flags_answer office site pollutant year
      unfolding flags_answer listed_flags standing_of
      flags_are = refl

      completeness_is : completeness_answer (made_of office.records office.observations) site pollutant year ≡ completeness_answer office site pollutant year
      unfolding completeness_answer listed_months month_counts monitors_of standing_at
      completeness_is = refl

      lines_are : lines_answer (made_of office.records office.observations) site pollutant year ≡ lines_answer office site pollutant year
      unfolding lines_answer standing_of
      lines_are = refl

-- ---- over records and observations that are an office's

module _ (office : Office) (records : List OfficeRecord) (is : records ≡ office.records) where
  pub sites_over : (answer : Result Sheet Memory) → IfOk answer (λ sheet. sheet ≡ sites_answer (made_of records [])) → IfOk answer (λ sheet. sheet ≡ sites_answer office)
  sites_over answer told =
      subst (λ found. IfOk answer (λ sheet. sheet ≡ found)) ((λ i. sites_answer (made_of (is i) [])) ∙ sites_are office) told

  pub records_over : {T : Type 0} (items : T → List ℕ) (answer : Result T Memory)
      → IfOk answer (λ text. items text ≡ records_answer (made_of records [])) → IfOk answer (λ text. items text ≡ records_answer office)
  records_over items answer told =
      subst (λ found. IfOk answer (λ text. items text ≡ found)) ((λ i. records_answer (made_of (is i) [])) ∙ records_are office) told

  module _ (rows : List (ObsKey × Observation)) (are : rows ≡ office.observations) (site : Site) where
    pub monitors_over : (answer : Result Sheet Memory) → IfOk answer (λ sheet. sheet ≡ monitors_answer (made_of records rows) site) → IfOk answer (λ sheet. sheet ≡ monitors_answer office site)
    monitors_over answer told =
        subst (λ found. IfOk answer (λ sheet. sheet ≡ found)) ((λ i. monitors_answer (made_of (is i) (are i)) site) ∙ monitors_are office site) told

    pub events_over : (answer : Result Sheet Memory) → IfOk answer (λ sheet. sheet ≡ events_answer (made_of records rows) site) → IfOk answer (λ sheet. sheet ≡ events_answer office site)
    events_over answer told =
        subst (λ found. IfOk answer (λ sheet. sheet ≡ found)) ((λ i. events_answer (made_of (is i) (are i)) site) ∙ events_are office site) told

    module _ (pollutant : Pollutant) (year : ℕ) where
      pub flags_over : (answer : Result Sheet Memory)
          → IfOk answer (λ sheet. sheet ≡ flags_answer (made_of records rows) site pollutant year) → IfOk answer (λ sheet. sheet ≡ flags_answer office site pollutant year)
      flags_over answer told =
          subst (λ found. IfOk answer (λ sheet. sheet ≡ found)) ((λ i. flags_answer (made_of (is i) (are i)) site pollutant year) ∙ flags_are office site pollutant year) told

      pub completeness_over : (answer : Result Sheet Memory)
          → IfOk answer (λ sheet. sheet ≡ completeness_answer (made_of records rows) site pollutant year)
          → IfOk answer (λ sheet. sheet ≡ completeness_answer office site pollutant year)
      completeness_over answer told =
          subst (λ found. IfOk answer (λ sheet. sheet ≡ found))
          ((λ i. completeness_answer (made_of (is i) (are i)) site pollutant year) ∙ completeness_is office site pollutant year)
          told

      pub lines_over : {T : Type 0} (items : T → List ℕ) (answer : Result T Memory)
          → IfOk answer (λ text. items text ≡ lines_answer (made_of records rows) site pollutant year) → IfOk answer (λ text. items text ≡ lines_answer office site pollutant year)
      lines_over items answer told =
          subst (λ found. IfOk answer (λ text. items text ≡ found)) ((λ i. lines_answer (made_of (is i) (are i)) site pollutant year) ∙ lines_are office site pollutant year) told
