use Rattle.std.proofs.Common.{◌≡◌, ◌∙◌, ap, sym, arith, Option, Some, None, true, false, refl}
use Rattle.std.specs.Prelude.{is_some}
use Rattle.std.specs.Option.{option_or}
use Rattle.aq_base.specs.declared.monitor.Pollutant.TheVariants.{Pm25}
use Rattle.aq_rules.specs.Ozone.SiteHour.{Cell}
use Rattle.aq_series.specs.OfficeView.{office_of}
use Rattle.aq_series.specs.DayCells.{cells_on, mean_of, pocs_of}
use Rattle.aq_series.proofs.SiteDay.{fine-is, none-of, of-one, with-others}
use Rattle.aq_series.proofs.days.pm25_day.Goals as goal

some_first : (o p : Option Cell) → is_some o ≡ true → o ≡ option_or o p
some_first None p h = cc
some_first (Some c) p h = refl

none_first : (o : Option Cell) → is_some o ≡ false → o ≡ None
none_first None h = refl
none_first (Some c) h = cc

pub returns-then-is_some-clause-value : goal.returns-then-is_some-clause-value
returns-then-is_some-clause-value g c =
    let office = office_of c.args.registry.now c.args.shelf.now in
    let mean = mean_of (cells_on office c.args.site.now Pm25 c.args.day (pocs_of c.args.registry.now c.args.site.now Pm25)) in
    some_first c.day_of_poc-cell.result mean (sym c.is_some.ensures ∙ c.if-is_some.true)
    ∙ ap (λ (o : Option Cell). option_or o mean) c.day_of_poc-cell.ensures.value
    ∙ fine-is office c.args.site.now c.args.day c.primary_on-primary.result c.requires c.primary_on-primary.ensures

pub returns-then-is_some-clause-steps : goal.returns-then-is_some-clause-steps
returns-then-is_some-clause-steps g c = omega (arith, c.day_of_poc-cell.ensures.steps, of-one c.args.registry.now c.args.site.now Pm25 c.primary_on-primary.result c.requires)

pub mean_of_others-requires-clause-without : goal.mean_of_others-requires-clause-without
mean_of_others-requires-clause-without g c =
    none-of (office_of c.args.registry.now c.args.shelf.now) c.args.site.now c.args.day c.primary_on-primary.result
    (sym c.day_of_poc-cell.ensures.value ∙ none_first c.day_of_poc-cell.result (sym c.is_some.ensures ∙ c.if-is_some.false))

pub returns-clause-value : goal.returns-clause-value
returns-clause-value g c =
    let office = office_of c.args.registry.now c.args.shelf.now in
    let mean = mean_of (cells_on office c.args.site.now Pm25 c.args.day (pocs_of c.args.registry.now c.args.site.now Pm25)) in
    c.mean_of_others.ensures.value
    ∙ ap (λ (o : Option Cell). option_or o mean) (sym (none_first c.day_of_poc-cell.result (sym c.is_some.ensures ∙ c.if-is_some.false)) ∙ c.day_of_poc-cell.ensures.value)
    ∙ fine-is office c.args.site.now c.args.day c.primary_on-primary.result c.requires c.primary_on-primary.ensures

pub returns-clause-steps : goal.returns-clause-steps
returns-clause-steps g c = omega (arith, c.day_of_poc-cell.ensures.steps, c.mean_of_others.ensures.steps, with-others c.args.registry.now c.args.site.now Pm25 c.primary_on-primary.result c.requires)
