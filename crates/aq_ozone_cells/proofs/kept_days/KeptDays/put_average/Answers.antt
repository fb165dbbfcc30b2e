use Rattle.std.proofs.Common.{◌≡◌, ◌&&◌, ◌/◌, cond, subst}
use Rattle.std.specs.Prelude.{◌==◌}
use Rattle.aq_rules.specs.Office.Monitors.{is_same_site}
use Rattle.aq_ozone_cells.specs.KeptDays.{average_at, average_in}
use Rattle.aq_ozone_cells.proofs.KeptDayLemmas.{held-stays, hours-stay, place-put}
use Rattle.aq_ozone_cells.proofs.kept_days.KeptDays.put_average.Goals as goal

pub returns-clause-hours : goal.returns-clause-hours
returns-clause-hours c =
    hours-stay c.args.site (c.number-start.result / 24) c.put_average.new.self c.day-cells.result c.args.self.now.days.entries c.put.new.self.days.entries
    c.in_ok-put.ensures.ok c.day-cells.ensures c.put_average.ensures.hours

pub returns-clause-averages : goal.returns-clause-averages
unfolding average_at
returns-clause-averages c other number =
    subst (λ start. average_at c.put.new.self.days.entries other number ≡ cond (is_same_site c.args.site other && (start == number)) c.args.average (average_at c.args.self.now.days.entries other number)) c.number-start.ensures.value
    (place-put average_in c.args.site c.number-start.result c.args.average c.put_average.new.self c.args.self.now.days.entries c.put.new.self.days.entries
    c.in_ok-put.ensures.ok c.day-cells.result c.day-cells.ensures c.put_average.ensures.averages other number)

pub returns-clause-held : goal.returns-clause-held
returns-clause-held c =
    held-stays c.args.site (c.number-start.result / 24) c.put_average.new.self c.day-cells.result c.args.self.now.days.entries c.put.new.self.days.entries
    c.in_ok-put.ensures.ok c.day-cells.ensures c.put_average.ensures.held
