use Rattle.std.proofs.Common.{◌&&◌, ◌∙◌, refl}
use Rattle.std.specs.Prelude.{◌==◌}
use Rattle.aq_rules.specs.Office.Monitors.{is_same_site}
use Rattle.aq_series.specs.OfficeView.{office_of}
use Rattle.aq_ozone_cells.specs.KeptDays.{held_at}
use Rattle.aq_ozone_cells.specs.OzoneCells.{day_from}
use Rattle.aq_ozone_cells.proofs.SettledCells.{day-up, one-day}
use Rattle.aq_ozone_cells.proofs.SiteNumbers.{itself, one-number}
use Rattle.aq_ozone_cells.proofs.settling.bring_up_day.Goals as goal

pub returns-clause-up : goal.returns-clause-up
returns-clause-up g c =
    day-up (office_of c.args.registry.now c.args.shelf.now) c.args.cells.now c.settle_day.new.self c.requires c.in_ok-settle_day.ensures.hours c.in_ok-settle_day.ensures.averages
    c.args.site (λ other number. is_same_site c.args.site other && (c.args.day == number)) (one-day c.args.site c.args.day)
    (λ other number. c.in_ok-settle_day.ensures.days other number
    ∙ one-number c.args.site other c.args.day number (day_from c.args.registry.now c.args.cells.now c.args.site) (held_at c.args.cells.now other number))
    c.args.day (itself c.args.site c.args.day c.args.day refl)
