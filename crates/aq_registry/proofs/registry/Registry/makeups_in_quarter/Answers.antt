use Rattle.std.proofs.Common.{◌≡◌, ◌∙◌, ◌+◌, ap, sym, subst}
use Rattle.std.specs.Prelude.{count_by}
use Rattle.aq_base.specs.Calendar.{quarter_of, quarter_first, days_in_quarter}
use Rattle.aq_rules.specs.Office.Office.{IsOffice}
use Rattle.aq_registry.specs.Places.{lies_between, of_site}
use Rattle.aq_registry.specs.Registry.{office_with}
use Rattle.aq_registry.proofs.RuleLemmas.{makeups_counted}
use Rattle.aq_registry.proofs.ScheduleLemmas.{all-are_records}
use Rattle.aq_registry.proofs.SeriesLemmas.{count-span}
use Rattle.aq_registry.proofs.registry.Registry.makeups_in_quarter.Goals as goal

pub returns : goal.returns
returns c =
    let site = c.args.site.now in
    let quarter = quarter_of c.args.missed in
    let first : c.from-first.result ≡ quarter_first quarter = c.from-first.ensures ∙ c.number.ensures.value ∙ c.quarter_span-first.ensures.first ∙ ap quarter_first c.quarter_of.ensures in
    let days : c.from.result ≡ days_in_quarter quarter = c.from.ensures ∙ c.quarter_span-first.ensures.days ∙ ap days_in_quarter c.quarter_of.ensures in
    let office = subst (λ rows. IsOffice (office_with rows)) c.self.view_is c.self.invariant.office in
    let fit = office.records_fit in
    c.count_between.ensures
    ∙ ap (count_by (lies_between c.of_site-start.result c.of_site-end.result)) c.self.view_is
    ∙ count-span 5 site 0 (quarter_first quarter) (quarter_first quarter + days_in_quarter quarter) c.of_site-start.result c.of_site-end.result c.args.self.now
    (c.of_site-start.ensures ∙ ap (of_site 5 site 0) first)
    (c.of_site-end.ensures ∙ ap (λ n. of_site 5 site 0 (n + c.from.result)) first ∙ ap (λ n. of_site 5 site 0 (quarter_first quarter + n)) days)
    ∙ sym (makeups_counted c.a_quarter_holds_the_days_of_its_span.ensures site c.args.missed c.args.self.now (all-are_records (office_with c.args.self.now) c.args.self.now fit))
