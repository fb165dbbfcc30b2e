use Rattle.std.proofs.Common.{◌∙◌, sym, subst}
use Rattle.std.specs.Prelude.{ℤ, Option, IfSome}
use Rattle.aq_rules.specs.Ozone.EightHour.{WindowRow}
use Rattle.aq_series.specs.Samples.{IsOzone}
use Rattle.aq_ozone.proofs.RangeLemmas.{full_range, net_range}
use Rattle.aq_ozone_cells.proofs.kept_window.average_over.Goals as goal

pub small-requires : goal.small-requires
small-requires c =
    subst (λ (row : WindowRow). IfSome row.net IsOzone) (sym (c.row.view_is ∙ c.window-row.ensures)) (net_range c.args.hours.now c.requires.ozone)

pub small-requires-2 : goal.small-requires-2
small-requires-2 c =
    subst (λ (row : WindowRow). IfSome row.full IsOzone) (sym (c.row.view_is ∙ c.window-row.ensures)) (full_range c.args.hours.now c.requires.ozone)

pub returns-clause-net : goal.returns-clause-net
returns-clause-net c =
    subst (λ (o : Option ℤ). IfSome o IsOzone) (sym c.small.ensures)
    (subst (λ (row : WindowRow). IfSome row.net IsOzone) (sym (c.row.view_is ∙ c.window-row.ensures)) (net_range c.args.hours.now c.requires.ozone))
