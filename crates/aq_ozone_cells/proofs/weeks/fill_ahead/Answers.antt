use Rattle.std.proofs.Common.{List, sym, subst}
use Rattle.aq_series.specs.OfficeView.{office_of}
use Rattle.aq_ozone_cells.specs.Settling.{AreWeeksOf}
use Rattle.aq_ozone_cells.specs.declared.filling.Week.{Week}
use Rattle.aq_ozone_cells.proofs.WeekCells.{week-cell, week-stay, weeks-more}
use Rattle.aq_ozone_cells.proofs.weeks.fill_ahead.Goals as goal

pub returns-clause-stay : goal.returns-clause-stay
returns-clause-stay g c =
    week-stay (office_of c.args.registry.now c.args.shelf.now) c.args.cells.now c.fill_week.new.cells c.args.week c.in_ok-fill_week.ensures.filled c.in_ok-fill_week.ensures.others

pub returns-clause-filled : goal.returns-clause-filled
returns-clause-filled g c =
    week-cell (office_of c.args.registry.now c.args.shelf.now) c.args.cells.now c.fill_week.new.cells c.args.week c.in_ok-fill_week.ensures.filled

pub returns-clause-weeks : goal.returns-clause-weeks
returns-clause-weeks g c =
    let office = office_of c.args.registry.now c.args.shelf.now in
    subst (λ (weeks : List Week). AreWeeksOf office c.fill_week.new.cells weeks) (sym c.in_ok-push.ensures.items)
    (weeks-more office c.args.cells.now c.fill_week.new.cells c.args.weeks.now.weeks.items c.args.week (returns-clause-stay g c) c.requires.weeks (returns-clause-filled g c))
