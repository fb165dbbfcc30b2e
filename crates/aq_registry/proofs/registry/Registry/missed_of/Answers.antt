use Rattle.std.proofs.Common.{◌∙◌, ◌-◌, ap, sym, subst}
use Rattle.std.specs.Prelude.{filter}
use Rattle.std.specs.Map.{values_of}
use Rattle.aq_rules.specs.Office.Office.{IsOffice}
use Rattle.aq_registry.specs.Places.{lies_between, of_site}
use Rattle.aq_registry.specs.Registry.{office_with}
use Rattle.aq_registry.proofs.ScheduleLemmas.{missed_found}
use Rattle.aq_registry.proofs.registry.Registry.missed_of.Goals as goal

pub returns : goal.returns
returns c =
    let until = c.from-end.ensures ∙ c.number.ensures.value in
    let week = c.saturating_sub.ensures ∙ ap (λ n. n - 7) until in
    c.first_missed.ensures
    ∙ sym (missed_found c.args.self.now c.args.site c.args.makeup c.of_site-start.result c.of_site-end.result (values_of c.between.result)
    (subst (λ rows. IsOffice (office_with rows)) c.self.view_is c.self.invariant.office)
    (c.of_site-start.ensures ∙ ap (of_site 5 c.args.site 0) week)
    (c.of_site-end.ensures ∙ ap (of_site 5 c.args.site 0) until)
    (c.between.ensures.records ∙ ap (filter (lies_between c.of_site-start.result c.of_site-end.result)) c.self.view_is))
