use Rattle.std.proofs.Common.{◌≡◌, ◌∙◌, ◌∷◌, ℕ, ap, subst, sym, true, List}
use Rattle.std.specs.Prelude.{filter}
use Rattle.std.specs.Map.{values_of}
use Rattle.aq_base.specs.declared.office.OfficeRecord.{OfficeRecord}
use Rattle.aq_rules.specs.Office.Office.{IsOffice, event_stands}
use Rattle.aq_registry.specs.Events.{events_above}
use Rattle.aq_registry.specs.Places.{lies_between}
use Rattle.aq_registry.specs.Registry.{office_with}
use Rattle.aq_registry.proofs.EventLemmas.{all-above_0, event-found, found-stands, if-some, next-event}
use Rattle.aq_registry.proofs.registry.Registry.next_event.Goals as goal

pub returns : goal.returns
returns c =
    let records = c.args.self.now in
    let valid : IsOffice (office_with records) = subst (λ (rows : List OfficeRecord). IsOffice (office_with rows)) c.self.view_is c.self.invariant.office in
    let value =
    c.first_event.ensures
    ∙ event-found c.args.site c.args.pollutant records c.args.after c.of_event-start.result c.of_kind.result (values_of c.between.result) c.of_event-start.ensures c.of_kind.ensures
    (c.between.ensures.records ∙ ap (filter (lies_between c.of_event-start.result c.of_kind.result)) c.self.view_is)
    in
    record {
      value = value;
      rest =
          if-some c.first_event.result (λ (number : ℕ). events_above records c.args.site c.args.pollutant c.args.after ≡ number ∷ events_above records c.args.site c.args.pollutant number)
          (λ number is. next-event c.args.site c.args.pollutant records c.args.after number (c.events_come_by_rising_number.ensures (office_with records) c.args.site c.args.pollutant valid.keys_rise) (sym value ∙ is));
      stands =
          if-some c.first_event.result (λ (number : ℕ). event_stands (office_with records) number ≡ true)
          (λ number is. found-stands c.args.site c.args.pollutant records c.args.after number (sym value ∙ is));
      all = all-above_0 c.args.site c.args.pollutant records valid;
    }
