use Rattle.std.proofs.Common.{◌≡◌, subst}
use Rattle.aq_rules.specs.Ozone.EightHour.{window_by}
use Rattle.aq_rules.specs.Ozone.OzoneDay.{windows_by}
use Rattle.aq_ozone_cells.specs.KeptDays.{hour_at}
use Rattle.aq_ozone_cells.specs.OzoneCells.{Cells}
use Rattle.aq_ozone_cells.proofs.ozone_cells.OzoneCells.windows.Goals as goal

pub returns : goal.returns
returns c =
    subst (λ (cells : Cells). c.windows_of.result ≡ windows_by (window_by (hour_at cells c.args.site)) c.args.day) c.self.view_is
    (c.windows_of.ensures.windows (hour_at c.self.inside.days.days.entries c.args.site) c.args.day c.day_hours.ensures.hours)
