-- Records with assumed concurrences, beside observations.
use Rattle.std.proofs.Common.{◌≡◌, ℕ, Bool, true, false, not, cond, Option, Some, None, List, [], ◌∷◌, refl, ap, sym, ◌∙◌}
use Rattle.std.specs.Prelude.{is_some}
use Rattle.std.proofs.lemmas.Bool.{and_parts}
use Rattle.aq_base.specs.Site.{Site}
use Rattle.aq_base.specs.declared.assumed.Assumed.{Assumed}
use Rattle.aq_base.specs.declared.observation.ObsKey.{ObsKey}
use Rattle.aq_base.specs.declared.observation.Observation.{Observation}
use Rattle.aq_base.specs.declared.office.OfficeKey.TheVariants.{Event as EventKey}
use Rattle.aq_base.specs.declared.office.OfficeLine.TheVariants.{Change}
use Rattle.aq_base.specs.declared.office.OfficeRecord.{OfficeRecord}
use Rattle.aq_base.specs.declared.office.OfficeRecord.TheVariants.{Concurrence}
use Rattle.aq_base.specs.declared.standard.Standard.{Standard}
use Rattle.aq_rules.specs.DesignValues.{DesignValue, design_value}
use Rattle.aq_rules.specs.Lines.Canonical.{canonical_office}
use Rattle.aq_rules.specs.Lines.Spellings.{is_event_number}
use Rattle.aq_rules.specs.Office.Load.{after}
use Rattle.aq_rules.specs.Office.Office.{Office, event_stands, record_rank, with_row}
use Rattle.aq_rules.specs.WhatIf.Assumed.{assume, unknown_event, what_if}
use Rattle.aq_rules.proofs.Assuming.{others-stay}
use Rattle.aq_registry.specs.Registry.{office_with}
use Rattle.aq_series.specs.OfficeView.{office_of}
use Rattle.aq_design.specs.WhatIf.Records.{are_event_numbers, records_as_if}

abbrev Rows : Type 0
Rows = List (ObsKey × Observation)

-- what is assumed changes the records alone
pub assume-records : (list : List Assumed) (records : List OfficeRecord) (rows : Rows) → assume (office_of records rows) list ≡ office_of (records_as_if records list) rows
assume-records [] records rows = refl
assume-records (entry ∷ list) records rows = assume-records list (with_row record_rank (Concurrence entry.number entry.agreed) records) rows

module _ (standard : Standard) (records : List OfficeRecord) (rows : Rows) (list : List Assumed) (site : Site) (year : ℕ) (value : DesignValue) where
  -- the design value over the records as if is the one that is asked for
  pub value-as-if : (as_if : List OfficeRecord) → as_if ≡ records_as_if records list → value ≡ design_value standard (office_of as_if rows) site year → value ≡ what_if standard (office_of records rows) list site year
  unfolding what_if
  value-as-if as_if are is =
      is ∙ ap (λ (r : List OfficeRecord). design_value standard (office_of r rows) site year) are
      ∙ ap (λ (o : Office). design_value standard o site year) (sym (assume-records list records rows))

  -- one entry is what the line of the concurrence does
  pub value-after : (entry : Assumed) → list ≡ entry ∷ [] → value ≡ what_if standard (office_of records rows) list site year
      → after (office_of records rows) (canonical_office (Change (Concurrence entry.number entry.agreed))) ≡ assume (office_of records rows) (entry ∷ [])
      → value ≡ design_value standard (after (office_of records rows) (canonical_office (Change (Concurrence entry.number entry.agreed)))) site year
  unfolding what_if
  value-after entry one is line =
      is ∙ ap (λ (l : List Assumed). design_value standard (assume (office_of records rows) l) site year) one
      ∙ ap (λ (o : Office). design_value standard o site year) (sym line)

-- ---- events that stand

-- what stands of the events is the same whatever is assumed of one
stands-still : (records : List OfficeRecord) (entry : Assumed) (number : ℕ)
    → event_stands (office_with (with_row record_rank (Concurrence entry.number entry.agreed) records)) number ≡ event_stands (office_with records) number
stands-still records entry number = ap is_some (others-stay (office_with records) [] entry (EventKey number) refl)

unknown-still : (records : List OfficeRecord) (entry : Assumed) (list : List Assumed)
    → unknown_event (office_with (with_row record_rank (Concurrence entry.number entry.agreed) records)) list ≡ unknown_event (office_with records) list
unknown-still records entry [] = refl
unknown-still records entry (next ∷ list) =
    let stands = stands-still records entry next.number in
    let rest = unknown-still records entry list in
    λ i. cond (not (stands i)) (Some next.number) (rest i)

none-behind : (b : Bool) (number : ℕ) (rest : Option ℕ) → cond (not b) (Some number) rest ≡ None → (b ≡ true) × (rest ≡ None)
none-behind true number rest none = (refl, none)
none-behind false number rest none = absurd (cc)

module _ (records : List OfficeRecord) (entry : Assumed) (list : List Assumed) (known : unknown_event (office_with records) (entry ∷ list) ≡ None) where
  -- the first event of a list that has no unknown one stands
  pub first-stands : event_stands (office_with records) entry.number ≡ true
  first-stands = (none-behind (event_stands (office_with records) entry.number) entry.number (unknown_event (office_with records) list) known).0

  -- and once its entry is assumed, those behind it do
  pub others-known : unknown_event (office_with (with_row record_rank (Concurrence entry.number entry.agreed) records)) list ≡ None
  others-known =
      unknown-still records entry list
      ∙ (none-behind (event_stands (office_with records) entry.number) entry.number (unknown_event (office_with records) list) known).1

-- ---- a list of one entry

module _ (records : List OfficeRecord) (list : List Assumed) (entry : Assumed) (one : list ≡ entry ∷ []) where
  -- its event stands
  pub one-stands : unknown_event (office_with records) list ≡ None → event_stands (office_with records) entry.number ≡ true
  one-stands none = first-stands records entry [] (ap (unknown_event (office_with records)) (sym one) ∙ none)

  pub one-numbered : are_event_numbers list ≡ true → is_event_number entry.number ≡ true
  one-numbered all = (and_parts (is_event_number entry.number) true (ap are_event_numbers (sym one) ∙ all)).0
