use Rattle.std.proofs.Common.{◌∙◌, ap, sym, subst}
use Rattle.std.specs.Prelude.{ℤ, Option, IfSome}
use Rattle.aq_rules.specs.Ozone.OzoneDay.{OzoneDay, day_of_windows}
use Rattle.aq_series.specs.Samples.{IsOzone}
use Rattle.aq_ozone_cells.specs.OzoneCells.{counts, day_from, day_of_averages}
use Rattle.aq_ozone.proofs.RangeLemmas.{day_maximum_range}
use Rattle.aq_ozone_cells.proofs.SettleLemmas.{ranked-range}
use Rattle.aq_ozone_cells.proofs.held_days.day_from.Goals as goal

pub small-requires : goal.small-requires
small-requires c =
    subst (λ (day : OzoneDay). IfSome day.maximum IsOzone) (sym (c.ozone.view_is ∙ c.day_of_windows-ozone.ensures)) (day_maximum_range c.averages_of.result c.averages_of.ensures.range)

pub returns-clause-day : goal.returns-clause-day
unfolding day_from day_of_averages
returns-clause-day c =
    let day = c.ozone.view_is ∙ c.day_of_windows-ozone.ensures ∙ ap day_of_windows c.averages_of.ensures.rows in
    λ i. record {
      valid = ap (λ (d : OzoneDay). d.valid) day i;
      counted = (c.counts.ensures ∙ ap (λ (d : OzoneDay). counts c.args.registry.now c.args.site c.args.day d.valid) day) i;
      maximum = (c.small.ensures ∙ ap (λ (d : OzoneDay). d.maximum) day) i;
    }

pub returns-clause-range : goal.returns-clause-range
returns-clause-range c =
    ranked-range (record { valid = c.ozone.inside.valid; counted = c.counts.result; maximum = c.small.result })
    (subst (λ (o : Option ℤ). IfSome o IsOzone) (sym c.small.ensures)
    (subst (λ (day : OzoneDay). IfSome day.maximum IsOzone) (sym (c.ozone.view_is ∙ c.day_of_windows-ozone.ensures)) (day_maximum_range c.averages_of.result c.averages_of.ensures.range)))
