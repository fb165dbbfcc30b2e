use Rattle.std.proofs.Common.{◌∙◌, sym, ap, true, false, arith, rules, take}
use Rattle.std.proofs.lemmas.List.{length-take}
use Rattle.aq_rules.specs.Areas.AreaValue.{AreaYear}
use Rattle.aq_area.specs.AreaRows.{with_row}
use Rattle.aq_area.proofs.SiteRows.{sites-few, no-row, year-next}
use Rattle.aq_area.proofs.area_value.area_year.Goals.{then-holds, else-holds}
use Rattle.aq_area.proofs.area_value.area_year.Goals as goal

pub with_row-year-requires : goal.with_row-year-requires
with_row-year-requires c =
    let few = sites-few c.args.area.now (take c.loop-site.site-index c.args.rows.now) in
    omega (arith, few, length-take c.loop-site.site-index c.args.rows.now, ap (λ (y : AreaYear). y.sites) c.loop-site.invariant, c.requires)

pub loop-site-init : goal.loop-site-init
loop-site-init c = c.without_rows-year.ensures ∙ no-row c.args.area.now

pub loop-site-preserved : goal.loop-site-preserved
loop-site-preserved c =
    elim c.if-holds.branch [
      | then-holds w ↦
          year-next c.args.area.now c.args.rows.now c.loop-site.site-index c.loop-site-item.result c.loop-site.year c.if-holds.year true
          (search rules) c.loop-site-item.is c.loop-site.invariant (sym w.if-holds.true ∙ c.holds.ensures)
          (w.year-is ∙ w.with_row-year.ensures ∙ (λ k. with_row c.loop-site.year c.loop-site-item.result.0 (w.value.ensures k) (w.verdict.ensures k)))
      | else-holds w ↦
          year-next c.args.area.now c.args.rows.now c.loop-site.site-index c.loop-site-item.result c.loop-site.year c.if-holds.year false
          (search rules) c.loop-site-item.is c.loop-site.invariant (sym w.if-holds.false ∙ c.holds.ensures) w.year-is
    ]
