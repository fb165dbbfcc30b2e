use Rattle.std.proofs.Common.{◌∙◌, ap}
use Rattle.std.specs.List.{range_with_len}
use Rattle.aq_rules.specs.Ozone.EightHour.{WindowRow, eight_hours, row_of, window_by}
use Rattle.aq_ozone.specs.DayHours.{cells_in}
use Rattle.aq_ozone_cells.specs.KeptDays.{averages_of, hour_at}
use Rattle.aq_ozone_cells.specs.OzoneCells.{average_of_hours}
use Rattle.aq_ozone.proofs.DayLemmas.{cells_are}
use Rattle.aq_ozone_cells.proofs.kept_window.average_of_hours.Goals as goal

pub returns-clause-average : goal.returns-clause-average
unfolding average_of_hours eight_hours
returns-clause-average c =
    let hour = hour_at c.args.days.now.days.entries c.args.site in
    c.average_over.ensures.average
    ∙ ap (λ hours. averages_of (row_of (cells_in hours))) c.eight_hours-hours.ensures.hours
    ∙ ap (λ (row : WindowRow). averages_of row) (ap row_of (cells_are hour (range_with_len c.number.result 8)) ∙ ap (window_by hour) c.number.ensures.value)
