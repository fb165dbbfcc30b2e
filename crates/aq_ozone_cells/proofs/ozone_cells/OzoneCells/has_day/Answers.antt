use Rattle.std.proofs.Common.{◌∙◌, ap, subst, sym}
use Rattle.aq_ozone_cells.specs.FilledDays.{IsEmptyDay}
use Rattle.aq_ozone_cells.specs.KeptDays.{day_at}
use Rattle.aq_ozone_cells.specs.OzoneCells.{Cells}
use Rattle.aq_ozone_cells.proofs.CellFacts.{empty-is}
use Rattle.aq_ozone_cells.proofs.ozone_cells.OzoneCells.has_day.Goals as goal

pub returns : goal.returns
returns c none =
    let days = c.self.inside.days.days.entries in
    subst (λ (cells : Cells). IsEmptyDay cells c.args.site c.args.day) c.self.view_is
    (empty-is days c.args.site c.args.day (ap (day_at days c.args.site) (sym c.number.ensures.value) ∙ c.has.ensures none))
