-- An event turned round, and the events that decide one after another.
use Rattle.std.proofs.Common.{◌≡◌, ℕ, Bool, true, false, not, cond, Option, Some, None, List, [], ◌∷◌, ◌++◌, refl, ap, sym, subst, ◌∙◌}
use Rattle.std.specs.Prelude.{IfSome, filter_map, slice_get}
use Rattle.std.specs.List.{cons_option}
use Rattle.std.proofs.lemmas.List.{append_assoc}
use Rattle.aq_base.specs.Site.{Site}
use Rattle.aq_base.specs.declared.assumed.Assumed.{Assumed}
use Rattle.aq_base.specs.declared.assumed.DecisiveEvent.{DecisiveEvent}
use Rattle.aq_base.specs.declared.observation.ObsKey.{ObsKey}
use Rattle.aq_base.specs.declared.observation.Observation.{Observation}
use Rattle.aq_base.specs.declared.office.OfficeRecord.{OfficeRecord}
use Rattle.aq_base.specs.declared.office.OfficeRecord.TheVariants.{Concurrence}
use Rattle.aq_base.specs.declared.standard.Standard.{Standard}
use Rattle.aq_base.specs.declared.standard.Verdict.{Verdict}
use Rattle.aq_rules.specs.DesignValues.{DesignValue, design_value, is_same_verdict, verdict_in}
use Rattle.aq_rules.specs.Office.Office.{Office, record_rank, with_row}
use Rattle.aq_rules.specs.Standards.{pollutant_of}
use Rattle.aq_rules.specs.WhatIf.Assumed.{decisive, decisive_if, events_at, turned_round, verdict_turned, what_if}
use Rattle.aq_registry.specs.Registry.{office_with}
use Rattle.aq_series.specs.OfficeView.{office_of}

-- ---- numbers that are left

pub of-some : {X : Type 0} (o : Option X) (P : X → Type 0) (x : X) → o ≡ Some x → IfSome o P → P x
of-some {X} o P x is holds = subst (λ (q : Option X). IfSome q P) is holds

pub none-left : (numbers : List ℕ) → slice_get numbers 0 ≡ None → numbers ≡ []
none-left [] none = refl
none-left (n ∷ numbers) none = cc

-- ---- what an event gives

module _ (standard : Standard) (records : List OfficeRecord) (rows : List (ObsKey × Observation)) (site : Site) (year : ℕ) where
  abbrev office : Office
  office = office_of records rows

  -- the verdict over the records in which the event is turned round
  pub verdict-turned : (number : ℕ) (entry : Assumed) (as_if : List OfficeRecord) (value : DesignValue) (verdict : Verdict)
      → entry ≡ turned_round (office_with records) number → as_if ≡ with_row record_rank (Concurrence entry.number entry.agreed) records
      → value ≡ design_value standard (office_of as_if rows) site year → verdict ≡ verdict_in value
      → verdict ≡ verdict_turned standard office site year number
  unfolding what_if
  verdict-turned number entry as_if value verdict turned are is verdict_is =
      verdict_is ∙ ap verdict_in is
      ∙ ap (λ (r : List OfficeRecord). verdict_in (design_value standard (office_of r rows) site year)) are
      ∙ ap (λ (e : Assumed). verdict_in (design_value standard (office_of (with_row record_rank (Concurrence e.number e.agreed) records) rows) site year)) turned

  -- what an event gives
  abbrev pub decides : ℕ → Option DecisiveEvent
  decides number = decisive_if (verdict_in (design_value standard office site year)) (verdict_turned standard office site year number) number

  -- the events that decide, of some numbers
  abbrev pub deciding : List ℕ → List DecisiveEvent
  deciding numbers = filter_map decides numbers

  pub all-deciding : deciding (events_at office site (pollutant_of standard)) ≡ decisive standard office site year
  unfolding decisive
  all-deciding = refl

  given : (number : ℕ) (now turned : Verdict) → now ≡ verdict_in (design_value standard office site year) → turned ≡ verdict_turned standard office site year number
      → decides number ≡ cond {A = Option DecisiveEvent} (not (is_same_verdict now turned)) (Some (record { number = number; verdict = turned })) None
  given number now turned is is_turned = (λ i. decisive_if (sym is i) (sym is_turned i) number) ∙ other_way (is_same_verdict now turned)
    where
      other_way : (b : Bool) → cond {A = Option DecisiveEvent} b None (Some (record { number = number; verdict = turned })) ≡ cond {A = Option DecisiveEvent} (not b) (Some (record { number = number; verdict = turned })) None
      other_way true = refl
      other_way false = refl

  module _ (number : ℕ) (now turned : Verdict) (differs : Bool) (behind : List ℕ)
      (is : now ≡ verdict_in (design_value standard office site year)) (is_turned : turned ≡ verdict_turned standard office site year number) (test : differs ≡ not (is_same_verdict now turned)) where
    joined : deciding (number ∷ behind) ≡ cons_option (cond {A = Option DecisiveEvent} differs (Some (record { number = number; verdict = turned })) None) (deciding behind)
    joined =
        ap (λ (o : Option DecisiveEvent). cons_option o (deciding behind))
        (given number now turned is is_turned ∙ ap (λ (b : Bool). cond {A = Option DecisiveEvent} b (Some (record { number = number; verdict = turned })) None) (sym test))

    -- an event that decides joins those before it
    pub one-more : (events : List DecisiveEvent) → differs ≡ true → (events ++ record { number = number; verdict = turned } ∷ []) ++ deciding behind ≡ events ++ deciding (number ∷ behind)
    one-more events yes_differs =
        append_assoc events (record { number = number; verdict = turned } ∷ []) (deciding behind)
        ∙ ap (λ (l : List DecisiveEvent). events ++ l)
        (sym (joined ∙ ap (λ (b : Bool). cons_option (cond {A = Option DecisiveEvent} b (Some (record { number = number; verdict = turned })) None) (deciding behind)) yes_differs))

    -- another one is passed over
    pub no-more : differs ≡ false → deciding behind ≡ deciding (number ∷ behind)
    no-more alike =
        sym (joined ∙ ap (λ (b : Bool). cons_option (cond {A = Option DecisiveEvent} b (Some (record { number = number; verdict = turned })) None) (deciding behind)) alike)
