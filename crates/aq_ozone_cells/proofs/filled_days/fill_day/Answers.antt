use Rattle.std.proofs.Common.{◌≡◌, ◌&&◌, ◌/◌, ◌%◌, None, cond, get_or, subst}
use Rattle.std.specs.Prelude.{◌==◌}
use Rattle.aq_rules.specs.Office.Monitors.{is_same_site}
use Rattle.aq_ozone_cells.specs.FilledDays.{day_average}
use Rattle.aq_ozone_cells.specs.KeptDays.{average_at, average_in, day_at, hour_at, hour_in}
use Rattle.aq_ozone_cells.specs.declared.kept_days.DayCells.{DayCells}
use Rattle.aq_ozone_cells.proofs.FilledLemmas.{filled}
use Rattle.aq_ozone_cells.proofs.KeptDayLemmas.{held-stays}
use Rattle.aq_ozone_cells.proofs.filled_days.fill_day.Goals as goal

pub returns-clause-hours : goal.returns-clause-hours
unfolding hour_at
returns-clause-hours c other number =
    subst (λ day. hour_at c.put.new.self.days.entries other number ≡ cond (is_same_site c.args.site other && (day == number / 24)) (get_or c.args.hours.now (number % 24) None) (hour_at c.args.days.now.days.entries other number)) c.number-day.ensures.value
    (filled (λ (d : DayCells). hour_in d number) c.fill_cells.new.cells (day_at c.args.days.now.days.entries other (number / 24)) (day_at c.put.new.self.days.entries other (number / 24))
    (is_same_site c.args.site other && (c.number-day.result == number / 24)) (get_or c.args.hours.now (number % 24) None)
    (c.in_ok-put.ensures.ok other (number / 24)) (c.fill_cells.ensures.hours number))

pub returns-clause-averages : goal.returns-clause-averages
unfolding average_at
returns-clause-averages c other start =
    subst (λ day. average_at c.put.new.self.days.entries other start ≡ cond (is_same_site c.args.site other && (day == start / 24)) (day_average c.args.hours.now start) (average_at c.args.days.now.days.entries other start)) c.number-day.ensures.value
    (filled (λ (d : DayCells). average_in d start) c.fill_cells.new.cells (day_at c.args.days.now.days.entries other (start / 24)) (day_at c.put.new.self.days.entries other (start / 24))
    (is_same_site c.args.site other && (c.number-day.result == start / 24)) (day_average c.args.hours.now start)
    (c.in_ok-put.ensures.ok other (start / 24)) (c.fill_cells.ensures.averages start))

pub returns-clause-held : goal.returns-clause-held
returns-clause-held c =
    held-stays c.args.site c.number-day.result c.fill_cells.new.cells c.day-cells.result c.args.days.now.days.entries c.put.new.self.days.entries
    c.in_ok-put.ensures.ok c.day-cells.ensures c.fill_cells.ensures.held
