use Rattle.std.proofs.Common.{◌≡◌, ◌&&◌, ◌/◌, cond, subst}
use Rattle.std.specs.Prelude.{◌==◌}
use Rattle.aq_rules.specs.Office.Monitors.{is_same_site}
use Rattle.aq_ozone_cells.specs.KeptDays.{hour_at, hour_in}
use Rattle.aq_ozone_cells.proofs.KeptDayLemmas.{averages-stay, held-stays, place-put}
use Rattle.aq_ozone_cells.proofs.kept_days.KeptDays.put_hour.Goals as goal

pub returns-clause-hours : goal.returns-clause-hours
unfolding hour_at
returns-clause-hours c other number =
    subst (λ hour. hour_at c.put.new.self.days.entries other number ≡ cond (is_same_site c.args.site other && (hour == number)) c.args.cell.now (hour_at c.args.self.now.days.entries other number)) c.number-hour.ensures.value
    (place-put hour_in c.args.site c.number-hour.result c.args.cell.now c.put_hour.new.self c.args.self.now.days.entries c.put.new.self.days.entries
    c.in_ok-put.ensures.ok c.day-cells.result c.day-cells.ensures c.put_hour.ensures.hours other number)

pub returns-clause-averages : goal.returns-clause-averages
returns-clause-averages c =
    averages-stay c.args.site (c.number-hour.result / 24) c.put_hour.new.self c.day-cells.result c.args.self.now.days.entries c.put.new.self.days.entries
    c.in_ok-put.ensures.ok c.day-cells.ensures c.put_hour.ensures.averages

pub returns-clause-held : goal.returns-clause-held
returns-clause-held c =
    held-stays c.args.site (c.number-hour.result / 24) c.put_hour.new.self c.day-cells.result c.args.self.now.days.entries c.put.new.self.days.entries
    c.in_ok-put.ensures.ok c.day-cells.ensures c.put_hour.ensures.held
