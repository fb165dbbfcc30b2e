use Rattle.std.proofs.Common.{◌∙◌, ap, cond, sym}
use Rattle.aq_rules.specs.Office.Monitors.{is_same_site}
use Rattle.aq_ozone_cells.specs.KeptDays.{held_at}
use Rattle.aq_ozone_cells.specs.OzoneCells.{day_from}
use Rattle.aq_ozone_cells.proofs.SettleLemmas.{day-alone}
use Rattle.aq_ozone_cells.proofs.SiteNumbers.{one-number}
use Rattle.aq_ozone_cells.proofs.ozone_cells.OzoneCells.settle_day.Goals as goal

pub returns-clause-days : goal.returns-clause-days
returns-clause-days g c other number =
    let held = day_from c.args.registry.now c.args.self.now c.args.site in
    c.in_ok-settle_days.ensures.settled.days other number
    ∙ ap (λ b. cond b (held number) (held_at c.args.self.now other number)) (day-alone (is_same_site c.args.site other) c.args.day number)
    ∙ sym (one-number c.args.site other c.args.day number held (held_at c.args.self.now other number))
