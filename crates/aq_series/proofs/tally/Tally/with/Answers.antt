use Rattle.std.proofs.Common.{◌∙◌, refl, sym, ap, ◌||◌, ◌+◌}
use Rattle.aq_rules.specs.Ozone.SiteHour.{Cell}
use Rattle.aq_series.proofs.Means.{added, eight_more, tally_more}
use Rattle.aq_series.proofs.tally.Tally.with.Goals as goal

pub returns-then-self-clause-tally : goal.returns-then-self-clause-tally
returns-then-self-clause-tally c before poc is =
    tally_more before poc c.args.cell.now c.args.self (c.args.self.count + 1) _ _ is refl (added c.args.self _ c.args.cell.now c.requires.values c.requires.value c.cell.view_is)
    (c.if-self.true ∙ ap (λ b. b || c.args.cell.now.excluded) (sym c.if-self.true))

pub returns-then-self-clause-values : goal.returns-then-self-clause-values
returns-then-self-clause-values c =
    eight_more c.args.self c.args.cell.now.value (c.args.self.count + 1) _ _ c.requires.values c.requires.value c.requires.count refl (added c.args.self _ c.args.cell.now c.requires.values c.requires.value c.cell.view_is)

pub returns-else-self-clause-tally : goal.returns-else-self-clause-tally
returns-else-self-clause-tally c before poc is =
    tally_more before poc c.args.cell.now c.args.self (c.args.self.count + 1) _ _ is refl (added c.args.self _ c.args.cell.now c.requires.values c.requires.value c.cell.view_is)
    (ap (λ (k : Cell). k.excluded) c.cell.view_is ∙ ap (λ b. b || c.args.cell.now.excluded) (sym c.if-self.false))

pub returns-else-self-clause-values : goal.returns-else-self-clause-values
returns-else-self-clause-values c =
    eight_more c.args.self c.args.cell.now.value (c.args.self.count + 1) _ _ c.requires.values c.requires.value c.requires.count refl (added c.args.self _ c.args.cell.now c.requires.values c.requires.value c.cell.view_is)
